-- The counted machine of an inserted program does what the core machine does, step for step.
use Rattle.std.proofs.Common.{Some, ◌∙◌, ◌≡◌, ℕ, zero, suc, ◌+◌, ◌*◌, ◌≤◌, true, List, [], ◌∷◌, ◌++◌, length, arith, refl, sym, ap, subst, mul-le-mul_right}
use Rattle.std.proofs.lemmas.Option.{get_or_from_slice_get}
use Rattle.std.specs.Prelude.{slice_get, slice_index_or}
use Rattle.kk_base.specs.Agreements.{Agree}
use Rattle.kk_base.specs.Machines.{Machine, step_unless, weight_unless, state}
use Rattle.kk_base.specs.Simulations.{Reaches, Simulates}
use Rattle.kk_base.proofs.Simulations.{ended_reaches, simulates_agree, simulates_passing}
use Rattle.kk_syntax.specs.Programs.{ConstructorTree}
use Rattle.kk_syntax.specs.Shapes.{is_among}
use Rattle.kk_source.specs.State.{Value, unit, place, Store, Environment, End}
use Rattle.kk_source.specs.Live as Places
use Rattle.kk_source.specs.Live.{value_of}
use Rattle.kk_source.specs.Actions.{performed}
use Rattle.kk_source.specs.Notes.{Note}
use Rattle.kk_core.specs.Codes.{Code, give, tail_call, case, compute, use_of, unpack, inside, FunctionCode}
use Rattle.kk_core.specs.CoreStates.{CoreSetting, Join, CoreControl, running, stopped, CoreConfiguration, CoreState, no_code, core_start, core_first_state, core_end_at}
use Rattle.kk_core.specs.CoreMachine.{code_step, core_step_at, core_machine}
use Rattle.kk_core.specs.Costs.{roomy_control_cost, roomy_core_cost}
use Rattle.kk_core.specs.Decisions.{NodeTree}
use Rattle.kk_core.specs.Kinds as Core
use Rattle.kk_core.specs.Kinds.{TestsAlike}
use Rattle.kk_core.specs.NeverStuck.{CodeFits, ControlFits, StateFits, NeverStuck}
use Rattle.kk_core.specs.Sizes.{forms, most_forms, below as numbers_below}
use Rattle.kk_counted.specs.CountedCodes as Codes
use Rattle.kk_counted.specs.CountedCodes.{CountedFunction}
use Rattle.kk_counted.specs.Heaps.{Heap, forwards}
use Rattle.kk_counted.specs.CountedCosts.{drop_cost, roomy_cost}
use Rattle.kk_counted.specs.CountedStates as Counted
use Rattle.kk_counted.specs.CountedStates.{CountedFrame, CountedConfiguration, CountedState, no_function, counted_start, counted_first_state}
use Rattle.kk_counted.specs.CountedMachine.{NotStuck}
use Rattle.kk_counted.specs.References.{refs, IsSound}
use Rattle.kk_counted.specs.Spending.{at_positions, numbers_from, left_by, is_owned}
use Rattle.kk_counted.specs.Keeping.{values_of, FitsAt, FitsAlways, HasShape, HasShapeAlways}
use Rattle.kk_counted.specs.Kinds.{HasKinds, HasKindsAlways}
use Rattle.kk_counted.proofs.SoundRuns.{keeps_sound}
use Rattle.kk_insert.specs.Insertion.{dropping, lent_of, own, insert, inserted_function, inserted_functions}
use Rattle.kk_insert.specs.Meaning.{inserted_setting, pace, LeavesNone, EndsClean, counted_notes, KeepsMeaning, FindsAsMany}
use Rattle.kk_insert.specs.Promise.{IsInsertable}
use Rattle.kk_insert.proofs.Sets.{Part}
use Rattle.kk_insert.proofs.VariableBindings.{IsFine}
use Rattle.kk_insert.proofs.Lengths.{part_none}
use Rattle.kk_insert.proofs.OwnedVariables.{own_part}
use Rattle.kk_insert.proofs.Programs.{is_fine, inserted_there, inserted_is_spent}
use Rattle.kk_insert.proofs.Paths.{lower, IsFed, PassingBy, Passing, passing_by, conf, with_input, PathBy, path_by}
use Rattle.kk_insert.proofs.StateRelation.{inserted_at, left_of, image_joins, CodeOk, Active, StandsAt, Stands, FollowsBy, Follows}
use Rattle.kk_insert.proofs.BlockSimulation.{follows_use, follows_case, follows_inside, follows_unpack}
use Rattle.kk_insert.proofs.EntrySimulation.{follows_give}
use Rattle.kk_insert.proofs.CallSimulation.{follows_tail}
use Rattle.kk_insert.proofs.FormSimulation.{follows_compute}

-- the uses that stand first in a code: their steps may take no counted step
abbrev uses_first : Code → ℕ
uses_first (use_of x rest) = suc (uses_first rest)
uses_first _ = 0

uses_few : (code : Code) → uses_first code ≤ forms code
uses_few (give x) = omega arith
uses_few (tail_call f arguments) = omega arith
uses_few (case x decisions arms) = omega arith
uses_few (compute x form arguments rest) = omega arith
uses_few (use_of x rest) = omega (arith, uses_few rest)
uses_few (unpack x c fields rest) = omega arith
uses_few (inside x block rest) = omega arith

abbrev waiting : CoreControl → ℕ
waiting (running code environment joins) = uses_first code
waiting (stopped by) = 0

-- how many counted steps the step of a code takes at least
abbrev least : Code → ℕ
least (use_of x rest) = 0
least _ = 1

module _ (room : ℕ) (setting : CoreSetting) (constructors : List ConstructorTree) (promise : IsInsertable setting.positions setting.code) where
  abbrev StandsFor : CoreState → ℕ → CountedState → Type 0
  StandsFor = Stands setting.positions setting.code.functions

  waits_few : (control : CoreControl) (s : CoreConfiguration) (credit : ℕ) (c : CountedConfiguration)
      → StandsAt setting.positions setting.code.functions control s credit c → waiting control ≤ most_forms
  waits_few (running code environment joins) s credit c active = omega (arith, uses_few code, active.code_ok.small)
  waits_few (stopped by) s credit c stands = omega arith

  -- what is known of cases is known of the code
  abbrev IsTested : (Store → Value → List NodeTree → Type 0) → CoreControl → CoreConfiguration → Type 0
  IsTested Test (running (case x decisions arms) environment joins) c = Test c.store (value_of environment x) decisions
  IsTested Test _ c = Unit {0}

  -- the state that stands for the machine at a code
  abbrev image : List ℕ → Code → Environment → List Join → List CountedFrame → Heap → List ℕ → CountedState
  image lent code environment joins frames heap input =
      with_input (conf (insert setting.positions lent (left_by (left_of setting.positions setting.code.functions lent joins)) code)
      environment (image_joins setting.positions setting.code.functions lent joins) frames heap) input

  -- the step of each code
  code_follows : (Test : Store → Value → List NodeTree → Type 0) (code : Code) (environment : Environment) (joins : List Join)
      (from : CoreConfiguration) (credit : ℕ) (c : CountedConfiguration) (input : List ℕ)
      → Active setting.positions setting.code.functions code environment joins from credit c
      → CodeFits constructors setting.code code environment joins from → IsTested Test (running code environment joins) from
      → FollowsBy setting.positions setting.code.functions (PassingBy Test (inserted_setting setting)) (inserted_at room setting)
      (least code) (roomy_control_cost room (running code environment joins) from.store + credit)
      (code_step setting code environment joins from) input (with_input c input)
  code_follows Test code environment joins from credit c input active fits tested =
      subst (λ (other : CountedConfiguration). FollowsBy setting.positions setting.code.functions
      (PassingBy Test (inserted_setting setting)) (inserted_at room setting)
      (least code) (roomy_control_cost room (running code environment joins) from.store + credit)
      (code_step setting code environment joins from) input (with_input other input)) (sym active.is)
      (by_code code active.code_ok active.sound active.saved fits tested)
    where
      widened : (code : Code)
          → Follows setting.positions setting.code.functions (inserted_at room setting) (least code)
          (roomy_control_cost room (running code environment joins) from.store + credit)
          (code_step setting code environment joins from) input
          (image active.lent code environment joins active.frames active.heap input)
          → FollowsBy setting.positions setting.code.functions (PassingBy Test (inserted_setting setting)) (inserted_at room setting)
          (least code) (roomy_control_cost room (running code environment joins) from.store + credit)
          (code_step setting code environment joins from) input
          (image active.lent code environment joins active.frames active.heap input)
      widened code path =
          path_by (Passing (inserted_setting setting)) (PassingBy Test (inserted_setting setting)) (inserted_at room setting)
          (least code) (roomy_control_cost room (running code environment joins) from.store + credit)
          (performed (code_step setting code environment joins from) input).0
          (Stands setting.positions setting.code.functions (performed (code_step setting code environment joins from) input).1)
          (image active.lent code environment joins active.frames active.heap input) (passing_by Test (inserted_setting setting)) path

      by_code : (code : Code)
          → CodeOk setting.positions setting.code.functions active.lent
          (left_of setting.positions setting.code.functions active.lent joins) code
          → IsSound (values_of environment
          (own setting.positions active.lent (left_by (left_of setting.positions setting.code.functions active.lent joins))
          code) ++ active.below) active.heap
          → drop_cost * (length (own setting.positions active.lent
          (left_by (left_of setting.positions setting.code.functions active.lent joins)) code) + length active.below) ≤ credit
          → CodeFits constructors setting.code code environment joins from → IsTested Test (running code environment joins) from
          → FollowsBy setting.positions setting.code.functions (PassingBy Test (inserted_setting setting)) (inserted_at room setting)
          (least code) (roomy_control_cost room (running code environment joins) from.store + credit)
          (code_step setting code environment joins from) input
          (image active.lent code environment joins active.frames active.heap input)
      by_code (give x) ok sound saved fits tested =
          widened (give x)
          (follows_give room setting constructors from active.lent active.below active.heap active.store input x environment joins
          active.frames active.waits active.joins_ok active.reached sound fits
          (roomy_control_cost room (running (give x) environment joins) from.store + credit) (omega (arith, saved)))
      by_code (tail_call f arguments) ok sound saved fits tested =
          widened (tail_call f arguments)
          (follows_tail room setting promise from active.lent active.below active.frames active.heap active.store active.waits input f
          arguments environment joins fits.0 ok active.reached sound fits.1 fits.2
          (roomy_control_cost room (running (tail_call f arguments) environment joins) from.store + credit) (omega (arith, saved)))
      by_code (case x decisions arms) ok sound saved fits tested =
          follows_case room setting from active.lent active.below active.frames active.heap active.store active.waits input environment
          joins active.joins_ok active.reached Test x decisions arms fits.0 fits.1
          (roomy_control_cost room (running (case x decisions arms) environment joins) from.store + credit) (omega (arith, saved))
          ok sound fits.2 fits.3 tested
      by_code (compute x form arguments rest) ok sound saved fits tested =
          widened (compute x form arguments rest)
          (follows_compute room setting constructors promise from active.lent active.below active.frames active.heap active.store
          active.waits input environment joins active.joins_ok active.reached x form arguments rest ok sound fits
          (roomy_control_cost room (running (compute x form arguments rest) environment joins) from.store + credit) (omega (arith, saved)))
      by_code (use_of x rest) ok sound saved fits tested =
          widened (use_of x rest)
          (follows_use room setting from active.lent active.below active.frames active.heap active.store active.waits input environment
          joins active.joins_ok active.reached x rest
          (roomy_control_cost room (running (use_of x rest) environment joins) from.store + credit) (omega (arith, saved)) ok sound)
      by_code (unpack x c fields rest) ok sound saved fits tested =
          widened (unpack x c fields rest)
          (follows_unpack room setting from active.lent active.below active.frames active.heap active.store active.waits input environment
          joins active.joins_ok active.reached x c fields rest ok sound fits.0 fits.1 fits.2 fits.3 fits.4
          (roomy_control_cost room (running (unpack x c fields rest) environment joins) from.store + credit) (omega (arith, saved)))
      by_code (inside x block rest) ok sound saved fits tested =
          widened (inside x block rest)
          (follows_inside room setting from active.lent active.below active.frames active.heap active.store active.waits input environment
          joins active.joins_ok active.reached x block rest
          (roomy_control_cost room (running (inside x block rest) environment joins) from.store + credit) (omega (arith, saved)) ok sound)

  module _ (Test : Store → Value → List NodeTree → Type 0) where
    abbrev upper : Machine CoreState Note End
    upper = core_machine (roomy_core_cost room) setting

    -- a state finds what it asks for, and it is known of its case
    abbrev IsSane : CoreConfiguration → Type 0
    IsSane c = StateFits constructors setting.code c × IsTested Test c.control c

    -- so do those from a state on
    abbrev Sane : CoreState → Type 0
    Sane s = (n : ℕ) → IsSane (state upper n s).machine

    abbrev Passed : CountedState → Type 0
    Passed = PassingBy Test (inserted_setting setting)

    abbrev Related : ℕ → ℕ → CoreState → CountedState → Type 0
    Related credit idle s t = (waiting s.machine.control ≤ idle) × (StandsFor s credit t × Sane s)

    abbrev Reached : ℕ → ℕ → CoreState → List Note × CoreState → CountedState → Type 0
    Reached credit idle s next t =
        Reaches (lower (inserted_at room setting)) Related Passed pace (upper.weight s + credit) 1 idle next.0 next.1 t

    -- steps enough for a step of the core machine
    enough_moves : (steps at_least idle before after : ℕ) → at_least ≤ steps → (at_least ≡ 0 → suc after ≤ before) → before ≤ idle
        → after ≤ most_forms → 1 + after ≤ steps * pace + idle
    enough_moves steps zero idle before after enough more waits few = omega (arith, more refl, waits)
    enough_moves steps (suc at_least) idle before after enough more waits few =
        omega (arith, mul-le-mul_right pace (let one : 1 ≤ steps = omega (arith, enough) in one), few)

    by_path : (credit idle before at_least most : ℕ) (s : CoreState) (next : List Note × CoreState) (t : CountedState)
        → PathBy Passed (inserted_at room setting) at_least most next.0 (StandsFor next.1) t → most ≤ upper.weight s + credit
        → Sane next.1
        → (at_least ≡ 0 → suc (waiting next.1.machine.control) ≤ before) → before ≤ idle → Reached credit idle s next t
    by_path credit idle before at_least most s next t path costs sane more waits =
        record {
          steps = path.steps;
          credit_after = path.saved;
          idle_after = waiting next.1.machine.control;
          paid = omega (arith, path.paid, costs);
          moves = enough_moves path.steps at_least idle before (waiting next.1.machine.control) path.enough more waits
              (waits_few next.1.machine.control next.1.machine path.saved
              (state (lower (inserted_at room setting)) path.steps t).machine path.ends.1);
          events_are = path.tells;
          passes = path.passes;
          related = (omega arith, (path.ends, sane));
        }

    -- uses that go by are fewer then
    uses_less : (code : Code) (environment : Environment) (joins : List Join) (from : CoreConfiguration) (input : List ℕ)
        → least code ≡ 0
        → suc (waiting (performed (code_step setting code environment joins from) input).1.machine.control) ≤ uses_first code
    uses_less (use_of x rest) environment joins from input none = omega arith
    uses_less (give x) environment joins from input none = absurd (omega (arith, none))
    uses_less (tail_call f arguments) environment joins from input none = absurd (omega (arith, none))
    uses_less (case x decisions arms) environment joins from input none = absurd (omega (arith, none))
    uses_less (compute x form arguments rest) environment joins from input none = absurd (omega (arith, none))
    uses_less (unpack x c fields rest) environment joins from input none = absurd (omega (arith, none))
    uses_less (inside x block rest) environment joins from input none = absurd (omega (arith, none))

    ends_alike : (control : CoreControl) (s : CoreConfiguration) (credit : ℕ) (c : CountedConfiguration)
        → StandsAt setting.positions setting.code.functions control s credit c
        → Counted.counted_end_at c.control ≡ core_end_at control
    ends_alike (running code environment joins) s credit c active = ap
        (λ (other : CountedConfiguration). Counted.counted_end_at other.control) active.is
    ends_alike (stopped by) s credit c stands = ap Counted.counted_end_at stands.0

    reaches_at : (control : CoreControl) (credit idle : ℕ) (s : CoreState) (t : CountedState) → s.machine.control ≡ control
        → waiting control ≤ idle → t.input ≡ s.input
        → StandsAt setting.positions setting.code.functions control s.machine credit t.machine
        → StandsFor s credit t → Sane s
        → Reached credit idle s (upper.step s) t
    reaches_at (running code environment joins) credit idle s t at waits inputs active stands sane =
        subst (λ (next : List Note × CoreState). Reached credit idle s next t) (sym step_is)
        (by_path credit idle (uses_first code) (least code)
        (roomy_control_cost room (running code environment joins) s.machine.store + credit) s
        (performed (code_step setting code environment joins s.machine) s.input) t
        (subst (λ (i : List ℕ). PathBy Passed (inserted_at room setting) (least code)
        (roomy_control_cost room (running code environment joins) s.machine.store + credit)
        (performed (code_step setting code environment joins s.machine) s.input).0
        (StandsFor (performed (code_step setting code environment joins s.machine) s.input).1) (with_input t.machine i))
        (sym inputs)
        (code_follows Test code environment joins s.machine credit t.machine s.input active
        (subst (λ (control : CoreControl). ControlFits constructors setting.code control s.machine) at (sane 0).0).1
        (subst (λ (control : CoreControl). IsTested Test control s.machine) at (sane 0).1)))
        (omega (arith, costs_are))
        (λ n. subst (λ (next : List Note × CoreState). IsSane (state upper n next.1).machine) step_is (sane (suc n)))
        (uses_less code environment joins s.machine s.input) waits)
      where
        step_is : upper.step s ≡ performed (code_step setting code environment joins s.machine) s.input
        step_is = ap (λ (control : CoreControl). step_unless (core_end_at control) s
            (performed (core_step_at setting control s.machine) s.input)) at

        costs_are : upper.weight s ≡ roomy_control_cost room (running code environment joins) s.machine.store
        costs_are = ap (λ (control : CoreControl). weight_unless (core_end_at control) (roomy_control_cost room control s.machine.store)) at
    reaches_at (stopped by) credit idle s t at waits inputs ends stands sane =
        ended_reaches upper (lower (inserted_at room setting)) Related Passed pace credit idle s t by (omega arith)
        (subst (λ (control : CoreControl). waiting control ≤ idle) (sym at) waits, (stands, sane))
        (ap core_end_at at) (ap Counted.counted_end_at ends.0) (passing ends)
      where
        passing : (t.machine.control ≡ Counted.stopped by) × LeavesNone by t.machine.heap → Passed t
        passing both = subst (λ (control : Counted.CountedControl). NotStuck control
            × (FitsAt control × (EndsClean control t.machine.heap
            × (HasShape (inserted_setting setting).program.functions (forwards t.machine.heap) control
            × IsFed Test t.machine.heap control)))) (sym both.0) (tt, (tt, (both.1, (tt, tt))))

    simulates : Simulates upper (lower (inserted_at room setting)) Related Passed pace
    simulates =
        record {
          by = λ credit idle s t related. reaches_at s.machine.control credit idle s t refl related.0 related.1.0.0 related.1.0.1
              related.1.0 related.1.1;
          alike = λ credit idle s t related. ends_alike s.machine.control s.machine credit t.machine related.1.0.1;
        }

    -- ---- the start

    start_stands : (input : List ℕ)
        → StandsFor (core_first_state setting input) 0 (counted_first_state (inserted_setting setting) input)
    start_stands input = (refl, active)
      where
        fetched : slice_index_or setting.code.functions setting.code.main no_code ≡ promise.main.0
        fetched = get_or_from_slice_get setting.code.functions setting.code.main promise.main.0 no_code promise.main.1.0

        fetched_too : slice_index_or (inserted_functions setting.positions 0 setting.code.functions) setting.code.main no_function ≡
            inserted_function setting.positions setting.code.main promise.main.0
        fetched_too =
            get_or_from_slice_get (inserted_functions setting.positions 0 setting.code.functions) setting.code.main
            (inserted_function setting.positions setting.code.main promise.main.0) no_function
            (inserted_there setting.positions setting.code.functions setting.code.main promise.main.0 promise.main.1.0)

        no_drops : (inserted_function setting.positions setting.code.main promise.main.0).body ≡ insert setting.positions
            (lent_of setting.positions setting.code.main promise.main.0) [] promise.main.0.body
        no_drops =
            ap (λ n. dropping (at_positions (is_owned setting.positions [] setting.code.main) 0 (numbers_from 0 n))
            (own setting.positions (lent_of setting.positions setting.code.main promise.main.0) [] promise.main.0.body)
            (insert setting.positions (lent_of setting.positions setting.code.main promise.main.0) [] promise.main.0.body))
            promise.main.1.1

        active_main : Active setting.positions setting.code.functions promise.main.0.body [] []
            (record { control = running promise.main.0.body [] []; frames = []; store = [] }) 0
            (conf (inserted_function setting.positions setting.code.main promise.main.0).body [] [] [] [])
        active_main =
            record {
              lent = lent_of setting.positions setting.code.main promise.main.0;
              below = [];
              frames = [];
              heap = [];
              is = ap (λ code. conf code [] [] [] []) no_drops;
              store = refl;
              waits = refl;
              code_ok = record {
                bound = numbers_below promise.main.0.parameters;
                fine = main_fine;
                lends_on = (promise.each setting.code.main promise.main.0 promise.main.1.0).tails;
                part = λ y is. nothing y is;
                apart = tt;
                small = (promise.each setting.code.main promise.main.0 promise.main.1.0).small;
              };
              joins_ok = tt;
              reached = λ y at is named. no_place at named;
              sound = record { counts = λ q. none_owned q; older = λ at. tt };
              saved = omega (
                arith,
                part_none
                    (own setting.positions (lent_of setting.positions setting.code.main promise.main.0) [] promise.main.0.body)
                    (subst (λ (n : ℕ). Part
                    (own setting.positions (lent_of setting.positions setting.code.main promise.main.0) [] promise.main.0.body)
                    (numbers_below n)) promise.main.1.1
                    (own_part setting.positions (lent_of setting.positions setting.code.main promise.main.0) []
                    (numbers_below promise.main.0.parameters) promise.main.0.body main_fine (λ y is. nothing y is))),
              );
            }
          where
            main_fine : IsFine (lent_of setting.positions setting.code.main promise.main.0)
                (numbers_below promise.main.0.parameters) promise.main.0.body
            main_fine =
                is_fine setting.positions setting.code.functions setting.code.main promise.main.0
                (promise.each setting.code.main promise.main.0 promise.main.1.0)

            nothing : (y : ℕ) → is_among [] y ≡ true → is_among (numbers_below promise.main.0.parameters) y ≡ true
            nothing y is = absurd (cc)

            no_place : (at : ℕ) → unit ≡ place at → Places.Reached [] [] at
            no_place at named = absurd (cc)

            none_owned : (q : ℕ) → 0 ≡ refs
                (values_of [] (own setting.positions (lent_of setting.positions setting.code.main promise.main.0)
                [] promise.main.0.body) ++ []) q + 0
            none_owned q = omega (
              arith,
              all_units
                  (own setting.positions (lent_of setting.positions setting.code.main promise.main.0) [] promise.main.0.body) q,
            )
              where
                all_units : (xs : List ℕ) (q : ℕ) → refs (values_of [] xs ++ []) q ≡ 0
                all_units [] q = refl
                all_units (x ∷ xs) q = omega (arith, all_units xs q)

        active : Active setting.positions setting.code.functions
            (slice_index_or setting.code.functions setting.code.main no_code).body [] [] (core_start setting) 0
            (counted_start (inserted_setting setting))
        active =
            subst (λ (main : FunctionCode). Active setting.positions setting.code.functions main.body [] []
            (record { control = running main.body [] []; frames = []; store = [] }) 0 (counted_start (inserted_setting setting)))
            (sym fetched)
            (subst (λ (main : CountedFunction). Active setting.positions setting.code.functions promise.main.0.body [] []
            (record { control = running promise.main.0.body [] []; frames = []; store = [] }) 0 (conf main.body [] [] [] []))
            (sym fetched_too) active_main)

-- each state that is passed, where in each core state it is known of cases
module _ (room : ℕ) (setting : CoreSetting) (constructors : List ConstructorTree) (weight : CoreState → ℕ) (input : List ℕ)
    (promise : IsInsertable setting.positions setting.code) (never : NeverStuck constructors weight setting input)
    (Test : Store → Value → List NodeTree → Type 0)
    (tested : (n : ℕ) → IsTested room setting constructors promise Test
    (state (core_machine weight setting) n (core_first_state setting input)).machine.control
    (state (core_machine weight setting) n (core_first_state setting input)).machine) where
  abbrev first_core : CoreState
  first_core = core_first_state setting input

  abbrev first_counted : CountedState
  first_counted = counted_first_state (inserted_setting setting) input

  related : Related room setting constructors promise Test 0 pace first_core first_counted
  related = (
    omega (
      arith,
      waits_few room setting constructors promise first_core.machine.control first_core.machine 0 first_counted.machine
          (start_stands room setting constructors promise Test input).1,
    ),
    (start_stands room setting constructors promise Test input, λ n. (never n, tested n)),
  )

  agrees : Agree (core_machine (roomy_core_cost room) setting) (lower (inserted_at room setting)) 0 (λ m. m * pace + pace + 1) first_core
      first_counted
  agrees =
      simulates_agree (core_machine (roomy_core_cost room) setting) (lower (inserted_at room setting))
      (Related room setting constructors promise Test) (PassingBy Test (inserted_setting setting)) pace
      (simulates room setting constructors promise Test) 0 pace first_core first_counted related

  pub all_passed : (n : ℕ) → PassingBy Test (inserted_setting setting) (state (lower (inserted_at room setting)) n first_counted)
  all_passed n =
      simulates_passing (core_machine (roomy_core_cost room) setting) (lower (inserted_at room setting))
      (Related room setting constructors promise Test) (PassingBy Test (inserted_setting setting)) pace
      (simulates room setting constructors promise Test) 0 pace first_core first_counted related n

-- ---- where nothing is known of cases

abbrev any_test : Store → Value → List NodeTree → Type 0
any_test store v decisions = Unit {0}

any_tested : (room : ℕ) (setting : CoreSetting) (constructors : List ConstructorTree)
    (promise : IsInsertable setting.positions setting.code) (control : CoreControl) (c : CoreConfiguration)
    → IsTested room setting constructors promise any_test control c
any_tested room setting constructors promise (stopped by) c = tt
any_tested room setting constructors promise (running code environment joins) c = by_code code
  where
    by_code : (code : Code) → IsTested room setting constructors promise any_test (running code environment joins) c
    by_code (give x) = tt
    by_code (tail_call f arguments) = tt
    by_code (case x decisions arms) = tt
    by_code (compute x form arguments rest) = tt
    by_code (use_of x rest) = tt
    by_code (unpack x by fields rest) = tt
    by_code (inside x block rest) = tt

module _ (room : ℕ) (setting : CoreSetting) (constructors : List ConstructorTree) (weight : CoreState → ℕ) (input : List ℕ)
    (promise : IsInsertable setting.positions setting.code) (never : NeverStuck constructors weight setting input) where
  tested_at : (n : ℕ) → IsTested room setting constructors promise any_test
      (state (core_machine weight setting) n (core_first_state setting input)).machine.control
      (state (core_machine weight setting) n (core_first_state setting input)).machine
  tested_at n =
      any_tested room setting constructors promise
      (state (core_machine weight setting) n (core_first_state setting input)).machine.control
      (state (core_machine weight setting) n (core_first_state setting input)).machine

  any_passed : (n : ℕ) → PassingBy any_test (inserted_setting setting)
      (state (lower (inserted_at room setting)) n (counted_first_state (inserted_setting setting) input))
  any_passed = all_passed room setting constructors weight input promise never any_test tested_at

-- An inserted program keeps the meaning of a program that is never stuck.
pub keeps_meaning : (setting : CoreSetting) (constructors : List ConstructorTree) (weight : CoreState → ℕ) (input : List ℕ)
    → IsInsertable setting.positions setting.code → NeverStuck constructors weight setting input → KeepsMeaning setting input
keeps_meaning setting constructors weight input promise never =
    record {
      agrees = λ room. agrees room setting constructors weight input promise never any_test
          (tested_at room setting constructors weight input promise never);
      never_stuck = λ weights n. (passing n).0;
      sound = λ weights n. keeps_sound setting.positions (inserted_setting setting) (roomy_cost 0) input
          (inserted_is_spent setting.positions setting.code promise) (λ k. (passing k).1.0) n;
      clean = λ weights n. (passing n).1.1.0;
    }
  where
    passing : (n : ℕ) → PassingBy any_test (inserted_setting setting)
        (state (lower (inserted_at 0 setting)) n (counted_first_state (inserted_setting setting) input))
    passing = any_passed 0 setting constructors weight input promise never

-- Its code has the shape that a typed program has.
pub has_shape : (setting : CoreSetting) (constructors : List ConstructorTree) (weight : CoreState → ℕ) (weights : CountedState → ℕ)
    (input : List ℕ) → IsInsertable setting.positions setting.code → NeverStuck constructors weight setting input
    → HasShapeAlways weights (inserted_setting setting) input
has_shape setting constructors weight weights input promise never n =
    (any_passed 0 setting constructors weight input promise never n).1.1.1.0

-- Its operators and prints take values without cells.
pub always_fits : (setting : CoreSetting) (constructors : List ConstructorTree) (weight : CoreState → ℕ) (weights : CountedState → ℕ)
    (input : List ℕ) → IsInsertable setting.positions setting.code → NeverStuck constructors weight setting input
    → FitsAlways weights (inserted_setting setting) input
always_fits setting constructors weight weights input promise never n =
    (any_passed 0 setting constructors weight input promise never n).1.0

-- ---- where values are of the kinds that core code takes

module _ (alike : ℕ → ℕ → Type 0) (fields : ℕ → ℕ) where
  abbrev alike_test : Store → Value → List NodeTree → Type 0
  alike_test store v decisions = TestsAlike alike fields (slice_get store) v decisions

  module _ (room : ℕ) (setting : CoreSetting) (constructors : List ConstructorTree) (promise : IsInsertable setting.positions setting.code) where
    core_tested : (control : CoreControl) (c : CoreConfiguration) → Core.HasKinds alike fields control c
        → IsTested room setting constructors promise alike_test control c
    core_tested (stopped by) c kinds = tt
    core_tested (running code environment joins) c kinds = by_code code kinds
      where
        by_code : (code : Code) → Core.HasKinds alike fields (running code environment joins) c
            → IsTested room setting constructors promise alike_test (running code environment joins) c
        by_code (give x) kinds = tt
        by_code (tail_call f arguments) kinds = tt
        by_code (case x decisions arms) kinds = kinds
        by_code (compute x form arguments rest) kinds = tt
        by_code (use_of x rest) kinds = tt
        by_code (unpack x by fields rest) kinds = tt
        by_code (inside x block rest) kinds = tt

  fed_kinds : (heap : Heap) (control : Counted.CountedControl) → IsFed alike_test heap control
      → HasKinds alike fields heap control
  fed_kinds heap (Counted.stopped by) fed = tt
  fed_kinds heap Counted.stuck fed = tt
  fed_kinds heap (Counted.running code environment joins) fed = by_code code fed
    where
      by_code : (code : Codes.Counted) → IsFed alike_test heap (Counted.running code environment joins)
          → HasKinds alike fields heap (Counted.running code environment joins)
      by_code (Codes.give x) fed = tt
      by_code (Codes.tail_call f arguments) fed = tt
      by_code (Codes.case x decisions arms) fed = fed
      by_code (Codes.compute x form arguments rest) fed = fed
      by_code (Codes.inside x block rest) fed = tt
      by_code (Codes.read x c fields rest) fed = tt
      by_code (Codes.open_cell x c fields used rest) fed = tt
      by_code (Codes.if_unique x c fields used rest) fed = tt
      by_code (Codes.dup x rest) fed = tt
      by_code (Codes.drop x rest) fed = tt

  pub keeps_kinds : (setting : CoreSetting) (constructors : List ConstructorTree) (weight : CoreState → ℕ)
      (weights : CountedState → ℕ) (input : List ℕ) → IsInsertable setting.positions setting.code
      → NeverStuck constructors weight setting input → Core.HasKindsAlways alike fields weight setting input
      → HasKindsAlways alike fields weights (inserted_setting setting) input
  keeps_kinds setting constructors weight weights input promise never kinds n =
      fed_kinds (state (lower (inserted_at 0 setting)) n (counted_first_state (inserted_setting setting) input)).machine.heap
      (state (lower (inserted_at 0 setting)) n (counted_first_state (inserted_setting setting) input)).machine.control
      (all_passed 0 setting constructors weight input promise never alike_test
      (λ k. core_tested 0 setting constructors promise
      (state (core_machine weight setting) k (core_first_state setting input)).machine.control
      (state (core_machine weight setting) k (core_first_state setting input)).machine (kinds k)) n).1.1.1.1

front_get : (xs ys : List Note) (k : ℕ) (note : Note) → slice_get xs k ≡ Some note → slice_get (xs ++ ys) k ≡ Some note
front_get [] ys k note is = absurd (cc)
front_get (x ∷ xs) ys zero note is = is
front_get (x ∷ xs) ys (suc k) note is = front_get xs ys k note is

-- equal notes: what one finds counted the other finds live
pub finds_as_many : (setting : CoreSetting) (constructors : List ConstructorTree) (weight : CoreState → ℕ) (input : List ℕ)
    → IsInsertable setting.positions setting.code → NeverStuck constructors weight setting input → FindsAsMany setting input
finds_as_many setting constructors weight input promise sane =
    record {
      counted_are_live = λ n k note is.
          let prefix = (kept.agrees 0).upwards.prefix n in (
            n * pace + pace + 1,
            ap (λ (notes : List Note). slice_get notes k) (sym prefix.1)
                ∙ front_get (counted_notes setting input n) prefix.0 k note is,
          );
      live_are_counted = λ n k note is.
          let done = (kept.agrees 0).downwards n in
          (done.steps, ap (λ (notes : List Note). slice_get notes k) done.events_are ∙ is);
    }
  where
    kept : KeepsMeaning setting input
    kept = keeps_meaning setting constructors weight input promise sane
