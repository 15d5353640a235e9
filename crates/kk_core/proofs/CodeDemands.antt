-- In each state of a run the code that runs and the codes that wait ask what types tell.
use Rattle.std.proofs.Common.{◌≡◌, ℕ, zero, suc, Bool, true, false, List, [], ◌∷◌, ◌++◌, map, length, Option, Some, None, refl, sym, subst}
use Rattle.std.proofs.lemmas.Option.{get_or_from_slice_get}
use Rattle.std.specs.Prelude.{slice_get, nat_le, if◌then◌else◌}
use Rattle.kk_base.specs.Machines.{state}
use Rattle.kk_syntax.specs.GroundTyping.{Table}
use Rattle.kk_syntax.specs.Programs.{ConstructorTree}
use Rattle.kk_syntax.specs.PositionsOf.{is_lent}
use Rattle.kk_syntax.specs.Types.{unit_type}
use Rattle.kk_source.specs.FormEffects.{FormEffect, gives, prints, reads, makes, enters, form_effect, effect_step}
use Rattle.kk_source.specs.Live.{value_of, live}
use Rattle.kk_source.specs.Matching.{and_then}
use Rattle.kk_source.specs.State.{Value, unit, place, Environment, heap_full, stack_full}
use Rattle.kk_source.specs.Step.{lent_places}
use Rattle.kk_source.proofs.RunInvariants.{LeadsTo, print_leads, run_keeps}
use Rattle.kk_core.specs.Codes.{Code, give, tail_call, case, compute, use_of, unpack, inside, Arms, no_arm, arm, FunctionCode}
use Rattle.kk_core.specs.CoreMachine.{arm_at, held_for, held_by_frames, fields_opened, bound_then, at_end, unpack_step, case_step, give_step, in_code, tail_step, construct_step, call_step, code_step, core_step_at, core_step_of, core_ending_of, core_machine}
use Rattle.kk_core.specs.CoreStates.{CoreSetting, Join, CallFrame, CoreControl, running, stopped, CoreConfiguration, CoreState, no_code, core_start, core_first_state}
use Rattle.kk_core.specs.CoreTyping.{IsCoreTyped}
use Rattle.kk_core.specs.Decisions.{chosen}
use Rattle.kk_core.specs.Kinds.{MakeOneType, field_count, AskTyped, ArmsAskTyped, AllAskTyped, HasKinds, HasKindsAlways}
use Rattle.kk_core.specs.NeverStuck.{CallFits}
use Rattle.kk_core.proofs.ChosenArms.{patterns_typed}
use Rattle.kk_core.proofs.ValueKinds.{takes_kinds}
use Rattle.kk_core.proofs.TypeSafety.{code_there, value_typed, code_fits}
use Rattle.kk_core.proofs.SafeRuns.{run_typed}
use Rattle.kk_core.proofs.TypedStates.{ControlTyped, Runs}

module _ (constructors : List ConstructorTree) where
  abbrev pub JoinsAsk : List Join → Type 0
  JoinsAsk [] = Unit {0}
  JoinsAsk (join ∷ joins) = AskTyped constructors join.rest × JoinsAsk joins

  abbrev pub FramesAsk : List CallFrame → Type 0
  FramesAsk [] = Unit {0}
  FramesAsk (frame ∷ older) = (AskTyped constructors frame.rest × JoinsAsk frame.joins) × FramesAsk older

  abbrev pub ControlAsks : CoreControl → Type 0
  ControlAsks (running code environment joins) = AskTyped constructors code × JoinsAsk joins
  ControlAsks (stopped by) = Unit {0}

  abbrev pub StateAsks : CoreConfiguration → Type 0
  StateAsks c = ControlAsks c.control × FramesAsk c.frames

  -- ---- the arm that is taken

  arm_asks : (arms : Arms) (row : ℕ) (body : Code) → ArmsAskTyped constructors arms → arm_at arms row ≡ Some body
      → AskTyped constructors body
  arm_asks no_arm row body all is = absurd (cc)
  arm_asks (arm pattern first rest) zero body all is =
      let same : first ≡ body = cc in subst (AskTyped constructors) same all.0
  arm_asks (arm pattern first rest) (suc row) body all is = arm_asks rest row body all.1 is

  row_asks : (arms : Arms) (row : Option ℕ) (body : Code) → ArmsAskTyped constructors arms → and_then row (arm_at arms) ≡ Some body
      → AskTyped constructors body
  row_asks arms None body all is = absurd (cc)
  row_asks arms (Some row) body all is = arm_asks arms row body all is

  case_asks : (found : Option Code) (environment : Environment) (joins : List Join) (from : CoreConfiguration)
      → ((body : Code) → found ≡ Some body → AskTyped constructors body) → JoinsAsk joins → StateAsks from
      → LeadsTo StateAsks (case_step found environment joins from)
  case_asks None environment joins from each waits now = now
  case_asks (Some body) environment joins from each waits now = ((each body refl, waits), now.1)

  -- ---- the other steps

  give_asks : (v : Value) (joins : List Join) (frames : List CallFrame) (environment : Environment) (from : CoreConfiguration)
      → JoinsAsk joins → FramesAsk frames → FramesAsk from.frames → LeadsTo StateAsks (give_step v joins frames environment from)
  give_asks v (join ∷ joins) frames environment from waits older now = (waits, now)
  give_asks v [] (frame ∷ frames) environment from waits older now = older
  give_asks v [] [] environment from waits older now = (tt, now)

  opened_asks : (found : Option (List Value)) (fields : List ℕ) (rest : Code) (environment : Environment) (joins : List Join)
      (from : CoreConfiguration) → AskTyped constructors rest → JoinsAsk joins → StateAsks from
      → LeadsTo StateAsks (unpack_step found fields rest environment joins from)
  opened_asks None fields rest environment joins from asks waits now = now
  opened_asks (Some vs) fields rest environment joins from asks waits now = ((asks, waits), now.1)

  either_asks : (full : Bool) (end to : CoreConfiguration) → StateAsks end → StateAsks to → StateAsks (if full then end else to)
  either_asks true end to first second = first
  either_asks false end to first second = second

  module _ (setting : CoreSetting) (all : AllAskTyped constructors setting.code) where
    tail_asks : (f : ℕ) (found : Option FunctionCode) (vs : List Value) (from : CoreConfiguration)
        → slice_get setting.code.functions f ≡ found → StateAsks from → LeadsTo StateAsks (tail_step found vs from)
    tail_asks f None vs from is now = now
    tail_asks f (Some function) vs from is now = ((all f function is, tt), now.1)

    call_asks : (f : ℕ) (found : Option FunctionCode) (vs : List Value) (waiting : List Value → CallFrame) (from : CoreConfiguration)
        → slice_get setting.code.functions f ≡ found
        → ((lent : List Value) → AskTyped constructors (waiting lent).rest × JoinsAsk (waiting lent).joins) → StateAsks from
        → LeadsTo StateAsks (call_step setting f found vs waiting from)
    call_asks f None vs waiting from is waits now = now
    call_asks f (Some function) vs waiting from is waits now =
        either_asks (nat_le setting.depth (suc (length from.frames))) (at_end stack_full from)
        (in_code function vs (record from { frames = waiting (lent_places (is_lent setting.positions f) 0 vs) ∷ from.frames }))
        (tt, now.1) ((all f function is, tt), (waits (lent_places (is_lent setting.positions f) 0 vs), now.1))

    module _ (x : ℕ) (rest : Code) (environment : Environment) (joins : List Join) (from : CoreConfiguration)
        (asks : AskTyped constructors rest) (waits : JoinsAsk joins) (now : StateAsks from) where
      form_asks : (effect : FormEffect)
          → LeadsTo StateAsks
          (effect_step (λ v. bound_then x v rest environment joins from)
          (λ c fields. construct_step setting c fields (held_for x rest joins environment ++ held_by_frames from.frames)
          (λ v. bound_then x v rest environment joins from) from)
          (λ f values. call_step setting f (slice_get setting.code.functions f) values
          (λ lent. record { variable = x; rest = rest; joins = joins; environment = environment; lent = lent }) from) effect)
      form_asks (gives v) = ((asks, waits), now.1)
      form_asks (prints piece) =
          print_leads StateAsks piece (bound_then x unit rest environment joins from) ((asks, waits), now.1)
      form_asks reads = λ byte. ((asks, waits), now.1)
      form_asks (makes c vs) =
          either_asks (nat_le setting.cells (live from.store
          (vs ++ (held_for x rest joins environment ++ held_by_frames from.frames)))) (at_end heap_full from)
          (record (bound_then x (place (length from.store)) rest environment joins from) {
            store = from.store ++ record { made_by = c; fields = vs } ∷ [];
          }) (tt, now.1) ((asks, waits), now.1)
      form_asks (enters f vs) =
          call_asks f (slice_get setting.code.functions f) vs
          (λ lent. record { variable = x; rest = rest; joins = joins; environment = environment; lent = lent }) from refl
          (λ lent. (asks, waits)) now

    code_asks : (code : Code) (environment : Environment) (joins : List Join) (from : CoreConfiguration)
        → AskTyped constructors code → JoinsAsk joins → StateAsks from
        → LeadsTo StateAsks (code_step setting code environment joins from)
    code_asks (give x) environment joins from asks waits now =
        give_asks (value_of environment x) joins from.frames environment from waits now.1 now.1
    code_asks (tail_call f arguments) environment joins from asks waits now =
        tail_asks f (slice_get setting.code.functions f) (map (value_of environment) arguments) from refl now
    code_asks (case x decisions arms) environment joins from asks waits now =
        case_asks (and_then (chosen (slice_get from.store) (value_of environment x) decisions) (arm_at arms)) environment joins from
        (λ body is. row_asks arms (chosen (slice_get from.store) (value_of environment x) decisions) body asks.1 is) waits now
    code_asks (compute x form arguments rest) environment joins from asks waits now =
        form_asks x rest environment joins from asks waits now
        (form_effect setting.code.texts form (map (value_of environment) arguments))
    code_asks (use_of x rest) environment joins from asks waits now = ((asks, waits), now.1)
    code_asks (unpack x c fields rest) environment joins from asks waits now =
        opened_asks (fields_opened from.store c (value_of environment x)) fields rest environment joins from asks waits now
    code_asks (inside x block rest) environment joins from asks waits now = ((asks.0, (asks.1, waits)), now.1)

    control_asks : (control : CoreControl) (c : CoreConfiguration) → ControlAsks control → StateAsks c
        → LeadsTo StateAsks (core_step_at setting control c)
    control_asks (running code environment joins) c asks now = code_asks code environment joins c asks.0 asks.1 now
    control_asks (stopped by) c asks now = now

    step_asks : (c : CoreConfiguration) → StateAsks c → LeadsTo StateAsks (core_step_of setting c)
    step_asks c now = control_asks c.control c now.0 now

-- ---- runs of typed programs

module _ (table : Table) (setting : CoreSetting) (typed : IsCoreTyped table setting.code)
    (all : AllAskTyped table.constructors setting.code) where
  start_asks : StateAsks table.constructors (core_start setting)
  start_asks =
      let there =
      code_there table setting.code.functions table.functions setting.code.main (record { parameters = []; result = unit_type })
      typed.functions typed.main in
      subst (λ (function : FunctionCode). StateAsks table.constructors
      (record { control = running function.body [] []; frames = []; store = [] }))
      (sym (get_or_from_slice_get setting.code.functions setting.code.main there.0 no_code there.1))
      ((all setting.code.main there.0 there.1, tt), tt)

  run_asks : (weight : CoreState → ℕ) (input : List ℕ) (n : ℕ)
      → StateAsks table.constructors (state (core_machine weight setting) n (core_first_state setting input)).machine
  run_asks weight input n =
      run_keeps (StateAsks table.constructors) weight core_ending_of (core_step_of setting)
      (step_asks table.constructors setting all) n (core_first_state setting input) start_asks

  abbrev Kinds : CoreControl → CoreConfiguration → Type 0
  Kinds control c = HasKinds (MakeOneType table.constructors) (field_count table.constructors) control c

  control_kinds : (control : CoreControl) (c : CoreConfiguration) → ControlTyped table control c.store c.frames
      → ControlAsks table.constructors control → Kinds control c
  control_kinds (stopped by) c at asks = tt
  control_kinds (running code environment joins) c at asks = by_code code at.1 asks.0
    where
      by_code : (code : Code) → Runs table c.store code environment joins at.0 → AskTyped table.constructors code
          → Kinds (running code environment joins) c
      by_code (give x) runs asked = tt
      by_code (tail_call f arguments) runs asked = tt
      by_code (case x decisions arms) runs asked =
          asked.0 runs.typed.0 c.store (value_of environment x)
          (patterns_typed table runs.tail runs.facts x runs.typed.0 arms runs.type runs.typed.2)
          (value_typed table setting typed c environment joins at.0 at.2 (case x decisions arms) runs x runs.typed.0 runs.typed.1)
      by_code (compute x form arguments rest) runs asked =
          takes_kinds table.constructors setting.code.texts (CallFits table.constructors setting.code) form
          (map (value_of environment) arguments)
          (code_fits table setting typed c environment joins at.0 at.2 (compute x form arguments rest) runs)
      by_code (use_of x rest) runs asked = tt
      by_code (unpack x by fields rest) runs asked = tt
      by_code (inside x block rest) runs asked = tt

  pub has_kinds : (weight : CoreState → ℕ) (input : List ℕ)
      → HasKindsAlways (MakeOneType table.constructors) (field_count table.constructors) weight setting input
  has_kinds weight input = λ n.
      let typed_now = run_typed table setting typed weight input n in
      control_kinds (state (core_machine weight setting) n (core_first_state setting input)).machine.control
      (state (core_machine weight setting) n (core_first_state setting input)).machine typed_now (run_asks weight input n).0
