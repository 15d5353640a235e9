-- A run of a typed program in core form is never stuck.
use Rattle.std.proofs.Common.{ℕ, List, [], refl, sym, subst}
use Rattle.std.proofs.lemmas.Option.{get_or_from_slice_get}
use Rattle.kk_base.specs.Machines.{state}
use Rattle.kk_syntax.specs.GroundTyping.{Table}
use Rattle.kk_syntax.specs.Types.{unit_type}
use Rattle.kk_source.proofs.RunInvariants.{run_keeps}
use Rattle.kk_core.specs.Codes.{FunctionCode}
use Rattle.kk_core.specs.CoreMachine.{core_step_of, core_ending_of, core_machine}
use Rattle.kk_core.specs.CoreStates.{CoreSetting, running, CoreState, no_code, core_start, core_first_state}
use Rattle.kk_core.specs.CoreTyping.{IsCoreTyped}
use Rattle.kk_core.specs.NeverStuck.{NeverStuck}
use Rattle.kk_core.proofs.TypeSafety.{code_there, state_fits}
use Rattle.kk_core.proofs.SafeSteps.{entered, step_safe}
use Rattle.kk_core.proofs.TypedStates.{IsStateTyped}

module _ (table : Table) (setting : CoreSetting) (typed : IsCoreTyped table setting.code) where
  start_typed : IsStateTyped table (core_start setting)
  start_typed =
      let there =
      code_there table setting.code.functions table.functions setting.code.main (record { parameters = []; result = unit_type })
      typed.functions typed.main in
      subst
      (λ (function : FunctionCode). IsStateTyped table (record { control = running function.body [] []; frames = []; store = [] }))
      (sym (get_or_from_slice_get setting.code.functions setting.code.main there.0 no_code there.1))
      (entered table there.0 (record { parameters = []; result = unit_type }) [] (core_start setting) there.2 tt refl)

  pub run_typed : (weight : CoreState → ℕ) (input : List ℕ) (n : ℕ)
      → IsStateTyped table (state (core_machine weight setting) n (core_first_state setting input)).machine
  run_typed weight input n =
      run_keeps (IsStateTyped table) weight core_ending_of (core_step_of setting) (step_safe table setting typed) n
      (core_first_state setting input) start_typed

  pub never_stuck : (weight : CoreState → ℕ) (input : List ℕ) → NeverStuck table.constructors weight setting input
  never_stuck weight input = λ n. state_fits table setting typed _ (run_typed weight input n)
