-- A run of a typed program is never stuck.
use Rattle.std.proofs.Common.{ℕ, List, [], sym, refl, subst}
use Rattle.std.proofs.lemmas.Option.{get_or_from_slice_get}
use Rattle.kk_base.specs.Machines.{state}
use Rattle.kk_syntax.specs.GroundTyping.{table_of, HasType, IsGroundTyped}
use Rattle.kk_syntax.specs.Programs.{FunctionTree, no_function, body_of}
use Rattle.kk_syntax.specs.Types.{unit_type}
use Rattle.kk_syntax.specs.Typing.{with_parameters}
use Rattle.kk_source.specs.NeverStuck.{NeverStuck}
use Rattle.kk_source.specs.SourceAfter.{ending_of, store_machine, first_state}
use Rattle.kk_source.specs.State.{Setting, start}
use Rattle.kk_source.specs.Step.{step_of}
use Rattle.kk_source.proofs.Bindings.{known_none}
use Rattle.kk_source.proofs.RunInvariants.{run_keeps}
use Rattle.kk_source.proofs.Operators.{function_there}
use Rattle.kk_source.proofs.TypeSafety.{IsStateTyped, state_fits, step_safe}

module _ (setting : Setting) (typed : IsGroundTyped setting.program) where
  main_typed : HasType (table_of setting.program) [] (body_of setting.program setting.program.main) unit_type
  main_typed =
      let program = setting.program in
      let there = function_there program.functions program.main [] unit_type typed.main in
      let function = there.0 in
      let is = get_or_from_slice_get program.functions program.main function no_function there.1 in
      let own = typed.functions program.main function there.1 in
      let alone = subst (λ ts. HasType (table_of program) (with_parameters 0 ts []) function.body function.result) there.2 own in
      let gives_unit = subst (HasType (table_of program) [] function.body) there.3 alone in
      subst (λ (f : FunctionTree). HasType (table_of program) [] f.body unit_type) (sym is) gives_unit

  pub start_typed : IsStateTyped (table_of setting.program) (start setting)
  start_typed = (
    unit_type,
    record { scope = []; known = known_none setting.program.constructors [] []; inside = main_typed },
    (unit_type, refl, refl),
  )

  pub run_typed : (input : List ℕ) (n : ℕ)
      → IsStateTyped (table_of setting.program) (state (store_machine setting) n (first_state setting input)).machine
  run_typed input n =
      run_keeps (IsStateTyped (table_of setting.program)) (λ s. 1) ending_of (step_of setting) (step_safe setting typed) n
      (first_state setting input) start_typed

  pub never_stuck : (input : List ℕ) → NeverStuck setting input
  never_stuck input = λ n. state_fits setting.program typed.truths _ (run_typed input n)
