-- What is true of each state of the code's run is true of each state of that of the fused code.
use Rattle.std.proofs.Common.{◌≡◌, ◌⊎◌, inl, inr, ℕ, zero, suc, ◌+◌, ◌-◌, ◌*◌, ◌≤◌, List, [], map, arith, refl, sym, ap, ◌∙◌, subst}
use Rattle.std.proofs.Common.{◌++◌}
use Rattle.std.specs.Prelude.{slice_index_or, option_map}
use Rattle.std.proofs.lemmas.Option.{get_or_from_slice_get, slice_get-map}
use Rattle.kk_base.specs.Machines.{state, trace}
use Rattle.kk_base.specs.Agreements.{Agree, IsFollowedBy}
use Rattle.kk_base.proofs.Simulations.{simulates_agree}
use Rattle.kk_syntax.specs.PositionsOf.{PositionTable}
use Rattle.kk_source.specs.Notes.{Note}
use Rattle.kk_source.specs.State.{Store, Environment, End, ended}
use Rattle.kk_counted.specs.CountedCodes.{Counted, give, tail_call, case, compute, inside, read, open_cell, if_unique, dup, drop}
use Rattle.kk_counted.specs.CountedCodes.{CountedFunction}
use Rattle.kk_counted.specs.CountedCosts.{roomy_cost}
use Rattle.kk_counted.specs.Heaps.{Heap, forwards, busy}
use Rattle.kk_counted.specs.CountedStates.{CountedSetting, CountedJoin, CountedControl, running, stopped, stuck, CountedState}
use Rattle.kk_counted.specs.CountedStates.{no_function, counted_start, counted_first_state}
use Rattle.kk_counted.specs.CountedMachine.{counted_machine, NotStuck}
use Rattle.kk_counted.specs.Spending.{IsSpent}
use Rattle.kk_counted.specs.Keeping.{FitsAt, HasShape, counted_after, FitsAlways, HasShapeAlways}
use Rattle.kk_counted.specs.Kinds.{HasKinds, HasKindsAlways}
use Rattle.kk_counted.proofs.Reachability.{same_store}
use Rattle.kk_counted.proofs.Progress.{never_stuck}
use Rattle.kk_dropspec.proofs.ChangedFunctions.{is_there, calls_one}
use Rattle.kk_fuse.specs.Fused.{fuse, fused_function, fused_setting}
use Rattle.kk_fuse.specs.FusedRuns.{steps_in, HasFewSteps, fused_join, IsAtForm, IsBetween, AreAtOne, AreFusedStates, IsSameTest}
use Rattle.kk_fuse.specs.FusedRuns.{IsFusedRun}
use Rattle.kk_fuse.proofs.Steps.{fused_configuration, arm_same}
use Rattle.kk_fuse.proofs.FormBounds.{start_few}
use Rattle.kk_fuse.proofs.Simulation.{one_step}
use Rattle.kk_fuse.proofs.FusedRuns.{Related, Passing, simulates}
use Rattle.kk_fuse.proofs.FusedNotes.{IsTold, told_alike}

-- ---- by the form at which the code is

form_fits : (code less : Counted) (environment : Environment) (joins others : List CountedJoin) → IsAtForm code less
    → FitsAt (running code environment joins) → FitsAt (running less environment others)
form_fits (give x) less environment joins others is fits = subst (λ code. FitsAt (running code environment others)) (sym is) tt
form_fits (tail_call f arguments) less environment joins others is fits =
    subst (λ code. FitsAt (running code environment others)) (sym is) tt
form_fits (case x decisions arms) less environment joins others is fits =
    subst (λ code. FitsAt (running code environment others)) (sym is) tt
form_fits (compute x form arguments rest) less environment joins others is fits =
    subst (λ code. FitsAt (running code environment others)) (sym is.1) fits
form_fits (inside x block rest) less environment joins others is fits =
    subst (λ code. FitsAt (running code environment others)) (sym is) tt
form_fits (read x c fields rest) less environment joins others is fits =
    subst (λ code. FitsAt (running code environment others)) (sym is.1) tt
form_fits (open_cell x c fields used rest) less environment joins others is fits =
    subst (λ code. FitsAt (running code environment others)) (sym is) tt
form_fits (if_unique x c fields used rest) less environment joins others is fits =
    subst (λ code. FitsAt (running code environment others)) (sym is) tt
form_fits (dup x rest) less environment joins others is fits =
    subst (λ code. FitsAt (running code environment others)) (sym is.1) tt
form_fits (drop x rest) less environment joins others is fits =
    subst (λ code. FitsAt (running code environment others)) (sym is.1) tt

module _ (functions : List CountedFunction) where
  module _ (store : Store) (environment : Environment) (joins others : List CountedJoin) where
    abbrev ShapeOf : Counted → Type 0
    ShapeOf code = HasShape (map fused_function functions) store (running code environment others)

    form_shape : (code less : Counted) → IsAtForm code less → HasShape functions store (running code environment joins)
        → HasShape (map fused_function functions) store (running less environment others)
    form_shape (give x) less is shape = subst ShapeOf (sym is) tt
    form_shape (tail_call f arguments) less is shape = subst ShapeOf (sym is) (is_there fuse functions f shape)
    form_shape (case x decisions arms) less is shape =
        subst ShapeOf (sym is)
        (shape.0, (fuse shape.1.0, (shape.1.1.0, arm_same arms shape.0 ∙ ap (option_map fuse) shape.1.1.1)))
    form_shape (compute x form arguments rest) less is shape = subst ShapeOf (sym is.1) (calls_one fuse functions form shape)
    form_shape (inside x block rest) less is shape = subst ShapeOf (sym is) tt
    form_shape (read x c fields rest) less is shape = subst ShapeOf (sym is.1) shape
    form_shape (open_cell x c fields used rest) less is shape = subst ShapeOf (sym is) shape
    form_shape (if_unique x c fields used rest) less is shape = subst ShapeOf (sym is) shape
    form_shape (dup x rest) less is shape = subst ShapeOf (sym is.1) tt
    form_shape (drop x rest) less is shape = subst ShapeOf (sym is.1) tt

module _ (alike : ℕ → ℕ → Type 0) (fields : ℕ → ℕ) (heap other : Heap) (store : forwards heap ≡ forwards other)
    (environment : Environment) (joins others : List CountedJoin) where
  abbrev KindsOf : Counted → Type 0
  KindsOf code = HasKinds alike fields other (running code environment others)

  -- a case tests the cells of the store, and no other form looks at it
  store_kinds : (code : Counted) → HasKinds alike fields heap (running code environment joins) → KindsOf code
  store_kinds (give x) kinds = tt
  store_kinds (tail_call f arguments) kinds = tt
  store_kinds (case x decisions arms) kinds = rw (← store) kinds
  store_kinds (compute x form arguments rest) kinds = kinds
  store_kinds (inside x block rest) kinds = tt
  store_kinds (read x c fields rest) kinds = tt
  store_kinds (open_cell x c fields used rest) kinds = tt
  store_kinds (if_unique x c fields used rest) kinds = tt
  store_kinds (dup x rest) kinds = tt
  store_kinds (drop x rest) kinds = tt

  form_kinds : (code less : Counted) → IsAtForm code less → KindsOf code → KindsOf less
  form_kinds (give x) less is kinds = subst KindsOf (sym is) kinds
  form_kinds (tail_call f arguments) less is kinds = subst KindsOf (sym is) kinds
  form_kinds (case x decisions arms) less is kinds = subst KindsOf (sym is) kinds
  form_kinds (compute x form arguments rest) less is kinds = subst KindsOf (sym is.1) kinds
  form_kinds (inside x block rest) less is kinds = subst KindsOf (sym is) kinds
  form_kinds (read x c fields rest) less is kinds = subst KindsOf (sym is.1) kinds
  form_kinds (open_cell x c fields used rest) less is kinds = subst KindsOf (sym is) kinds
  form_kinds (if_unique x c fields used rest) less is kinds = subst KindsOf (sym is) kinds
  form_kinds (dup x rest) less is kinds = subst KindsOf (sym is.1) kinds
  form_kinds (drop x rest) less is kinds = subst KindsOf (sym is.1) kinds

-- ---- by what is the same in both states

control_fits : (heap other : Heap) (control fused : CountedControl) → AreAtOne heap other control fused → FitsAt control
    → FitsAt fused
control_fits heap other (running code environment joins) fused one fits =
    subst FitsAt (sym one.1.0) (form_fits code one.0 environment joins (map fused_join joins) one.1.1.0 fits)
control_fits heap other (stopped by) fused one fits = subst FitsAt (sym one.0) tt
control_fits heap other stuck fused one fits = subst FitsAt (sym one.0) tt

control_goes : (heap other : Heap) (control fused : CountedControl) → AreAtOne heap other control fused → NotStuck control
    → NotStuck fused
control_goes heap other (running code environment joins) fused one going = subst NotStuck (sym one.1.0) tt
control_goes heap other (stopped by) fused one going = subst NotStuck (sym one.0) tt
control_goes heap other stuck fused one going = absurd going

control_shape : (functions : List CountedFunction) (store : Store) (heap other : Heap) (control fused : CountedControl)
    → AreAtOne heap other control fused → HasShape functions store control → HasShape (map fused_function functions) store fused
control_shape functions store heap other (running code environment joins) fused one shape =
    subst (HasShape (map fused_function functions) store) (sym one.1.0)
    (form_shape functions store environment joins (map fused_join joins) code one.0 one.1.1.0 shape)
control_shape functions store heap other (stopped by) fused one shape =
    subst (HasShape (map fused_function functions) store) (sym one.0) tt
control_shape functions store heap other stuck fused one shape =
    subst (HasShape (map fused_function functions) store) (sym one.0) tt

control_kinds : (alike : ℕ → ℕ → Type 0) (fields : ℕ → ℕ) (heap other : Heap) (control fused : CountedControl)
    → forwards heap ≡ forwards other → AreAtOne heap other control fused → HasKinds alike fields heap control
    → HasKinds alike fields other fused
control_kinds alike fields heap other (running code environment joins) fused store one kinds =
    subst (HasKinds alike fields other) (sym one.1.0)
    (form_kinds alike fields heap other store environment joins (map fused_join joins) code one.0 one.1.1.0
    (store_kinds alike fields heap other store environment joins (map fused_join joins) code kinds))
control_kinds alike fields heap other (stopped by) fused store one kinds = subst (HasKinds alike fields other) (sym one.0) tt
control_kinds alike fields heap other stuck fused store one kinds = subst (HasKinds alike fields other) (sym one.0) tt

-- where the fused code has ended, so has the code, and no count is another one
control_ends : (heap other : Heap) (control fused : CountedControl) (by : End) → AreAtOne heap other control fused
    → fused ≡ stopped by → (control ≡ stopped by) × (other ≡ heap)
control_ends heap other (running code environment joins) fused by one at =
    absurd (let both : running one.0 environment (map fused_join joins) ≡ stopped by = sym one.1.0 ∙ at in cc)
control_ends heap other (stopped end) fused by one at = (sym one.0 ∙ at, one.1)
control_ends heap other stuck fused by one at = absurd (let both : stuck ≡ stopped by = sym one.0 ∙ at in cc)

-- where fused code is at a test of a count, so is the code, and the heaps are equal
test_is : (heap other : Heap) (code less : Counted) (x c : ℕ) (fields used : List ℕ) (rest : Counted) → IsAtForm code less
    → (other ≡ heap) ⊎ IsBetween code → less ≡ if_unique x c fields used rest
    → (from : Counted) × ((code ≡ if_unique x c fields used from) × (other ≡ heap))
test_is heap other (give y) less x c fields used rest is heaps at =
    absurd (let both : give y ≡ if_unique x c fields used rest = sym is ∙ at in cc)
test_is heap other (tail_call f arguments) less x c fields used rest is heaps at =
    absurd (let both : tail_call f arguments ≡ if_unique x c fields used rest = sym is ∙ at in cc)
test_is heap other (case y decisions arms) less x c fields used rest is heaps at =
    absurd (let both : fuse (case y decisions arms) ≡ if_unique x c fields used rest = sym is ∙ at in cc)
test_is heap other (compute y form arguments next) less x c fields used rest is heaps at =
    absurd (let both : compute y form arguments is.0 ≡ if_unique x c fields used rest = sym is.1 ∙ at in cc)
test_is heap other (inside y block next) less x c fields used rest is heaps at =
    absurd (let both : fuse (inside y block next) ≡ if_unique x c fields used rest = sym is ∙ at in cc)
test_is heap other (read y d others next) less x c fields used rest is heaps at =
    absurd (let both : read y d others is.0 ≡ if_unique x c fields used rest = sym is.1 ∙ at in cc)
test_is heap other (open_cell y d others kept next) less x c fields used rest is heaps at =
    absurd (let both : fuse (open_cell y d others kept next) ≡ if_unique x c fields used rest = sym is ∙ at in cc)
test_is heap other (dup y next) less x c fields used rest is heaps at =
    absurd (let both : dup y is.0 ≡ if_unique x c fields used rest = sym is.1 ∙ at in cc)
test_is heap other (drop y next) less x c fields used rest is heaps at =
    absurd (let both : drop y is.0 ≡ if_unique x c fields used rest = sym is.1 ∙ at in cc)
test_is heap other (if_unique y d others kept next) less x c fields used rest is (inr between) at = absurd between
test_is heap other (if_unique y d others kept next) less x c fields used rest is (inl same) at =
    let both : if_unique y d others kept (fuse next) ≡ if_unique x c fields used rest = sym is ∙ at in
    (next, (test_same both, same))
  where
    test_same : if_unique y d others kept (fuse next) ≡ if_unique x c fields used rest
        → if_unique y d others kept next ≡ if_unique x c fields used next
    test_same both = cc

-- where the fused code tests a count, so does the code, and no count is another one
control_tests : (heap other : Heap) (control fused : CountedControl) (x c : ℕ) (fields used : List ℕ) (rest : Counted)
    (environment : Environment) (joins : List CountedJoin) → AreAtOne heap other control fused
    → fused ≡ running (if_unique x c fields used rest) environment joins
    → IsSameTest heap other control x c fields used environment
control_tests heap other (running code bound inner) fused x c fields used rest environment joins one at =
    let both : running one.0 bound (map fused_join inner) ≡ running (if_unique x c fields used rest) environment joins
    = sym one.1.0 ∙ at in
    let less : one.0 ≡ if_unique x c fields used rest = cc in
    let same : bound ≡ environment = cc in
    let test = test_is heap other code one.0 x c fields used rest one.1.1.0 one.1.1.1 less in
    record {
      rest = test.0;
      joins = inner;
      at =
          ap (λ code. running code bound inner) test.1.0
          ∙ ap (λ bound. running (if_unique x c fields used test.0) bound inner) same;
      counts = test.1.1;
    }
control_tests heap other (stopped by) fused x c fields used rest environment joins one at =
    absurd (let both : stopped by ≡ running (if_unique x c fields used rest) environment joins = sym one.0 ∙ at in cc)
control_tests heap other stuck fused x c fields used rest environment joins one at =
    absurd (let both : stuck ≡ running (if_unique x c fields used rest) environment joins = sym one.0 ∙ at in cc)

-- ---- runs

-- the states of a run are the same ones, whatever its steps weigh
same_states : (weight other : CountedState → ℕ) (setting : CountedSetting) (n : ℕ) (s : CountedState)
    → state (counted_machine weight setting) n s ≡ state (counted_machine other setting) n s
same_states weight other setting zero s = refl
same_states weight other setting (suc n) s = same_states weight other setting n ((counted_machine weight setting).step s).1

-- so are the notes
same_traces : (weight other : CountedState → ℕ) (setting : CountedSetting) (n : ℕ) (s : CountedState)
    → trace (counted_machine weight setting) n s ≡ trace (counted_machine other setting) n s
same_traces weight other setting zero s = refl
same_traces weight other setting (suc n) s =
    ap (λ (notes : List Note). ((counted_machine weight setting).step s).0 ++ notes)
    (same_traces weight other setting n ((counted_machine weight setting).step s).1)

module _ (positions : PositionTable) (setting : CountedSetting) (most : ℕ) (input : List ℕ)
    (spent : IsSpent positions setting.program) (fits : (weight : CountedState → ℕ) → FitsAlways weight setting input)
    (shape : (weight : CountedState → ℕ) → HasShapeAlways weight setting input) (short : HasFewSteps most setting.program) where
  abbrev fused_first : CountedState
  fused_first = counted_first_state (fused_setting setting) input

  -- both start alike
  start_same : counted_start (fused_setting setting) ≡ fused_configuration (counted_start setting)
  start_same =
      ap (λ (function : CountedFunction). record { control = running function.body [] []; frames = []; heap = [] })
      (get_or_from_slice_get (map fused_function setting.program.functions) setting.program.main (fused_function spent.main.0)
      no_function
      (slice_get-map fused_function setting.program.functions setting.program.main
      ∙ ap (option_map fused_function) spent.main.1.0)
      ∙ ap fused_function
      (sym (get_or_from_slice_get setting.program.functions setting.program.main spent.main.0 no_function spent.main.1.0)))

  abbrev main_body : Counted
  main_body = (slice_index_or setting.program.functions setting.program.main no_function).body

  main_short : steps_in main_body ≤ most
  main_short = (start_few most setting short spent.main.0 spent.main.1.0).0.0

  module _ (room : ℕ) where
    abbrev RelatedBy : ℕ → ℕ → CountedState → CountedState → Type 0
    RelatedBy = Related positions setting most room input spent (fits (roomy_cost room)) (shape (roomy_cost room)) short

    abbrev PassingBy : CountedState → Type 0
    PassingBy = Passing positions setting most room input spent (fits (roomy_cost room)) (shape (roomy_cost room)) short

    starts : RelatedBy 0 (most - 1) (counted_first_state setting input) fused_first
    starts =
        record {
          reached = record { at = 0; is = refl };
          follows = inl start_same;
          input_is = refl;
          left = omega (arith, main_short, one_step main_body);
        }

    told : (n : ℕ) → IsTold positions setting most room input spent (fits (roomy_cost room)) (shape (roomy_cost room)) short
        (counted_first_state setting input) fused_first n
    told n =
        told_alike positions setting most room input spent (fits (roomy_cost room)) (shape (roomy_cost room)) short
        (n * suc most + (most - 1) + 1) n 0 (most - 1) (counted_first_state setting input) fused_first starts (omega arith)

    agree : Agree (counted_machine (roomy_cost room) setting) (counted_machine (roomy_cost room) (fused_setting setting)) 0
        (λ m. m * suc most + (most - 1) + 1) (counted_first_state setting input) fused_first
    agree =
        simulates_agree (counted_machine (roomy_cost room) setting) (counted_machine (roomy_cost room) (fused_setting setting))
        RelatedBy PassingBy (suc most)
        (simulates positions setting most room input spent (fits (roomy_cost room)) (shape (roomy_cost room)) short)
        0 (most - 1) (counted_first_state setting input) fused_first starts

    each : (m : ℕ) → m * suc most + (most - 1) + 1 ≡ m * suc most + most
    each m = omega (arith, main_short, one_step main_body)

    within : ◌≡◌ {A = ℕ → ℕ} (λ m. m * suc most + (most - 1) + 1) (λ m. m * suc most + most)
    within = λ i m. each m i

    agrees : Agree (counted_machine (roomy_cost room) setting) (counted_machine (roomy_cost room) (fused_setting setting)) 0
        (λ m. m * suc most + most) (counted_first_state setting input) fused_first
    agrees =
        record {
          downwards = agree.downwards;
          upwards =
              subst
              (λ (up : ℕ → ℕ). IsFollowedBy (counted_machine (roomy_cost room) (fused_setting setting))
              (counted_machine (roomy_cost room) setting) up fused_first (counted_first_state setting input))
              within agree.upwards;
        }

  -- each state stands for one of the code's run
  states : (weight : CountedState → ℕ) (n : ℕ) → (m : ℕ)
      × AreFusedStates (counted_after weight setting input m) (counted_after weight (fused_setting setting) input n)
  states weight n =
      let one = told 0 n in (
        one.at,
        subst
            (λ (s : CountedState). AreFusedStates s.machine (counted_after weight (fused_setting setting) input n))
            (same_states (roomy_cost 0) weight setting one.at (counted_first_state setting input))
            (subst
            (λ (t : CountedState). AreFusedStates
            (state (counted_machine (roomy_cost 0) setting) one.at (counted_first_state setting input)).machine t.machine)
            (same_states (roomy_cost 0) weight (fused_setting setting) n fused_first) one.stands),
      )

  -- with the same notes
  notes : (weight : CountedState → ℕ) (n : ℕ) → trace (counted_machine weight (fused_setting setting)) n fused_first
      ≡ trace (counted_machine weight setting) (states weight n).0 (counted_first_state setting input)
  unfolding states told
  notes weight n =
      let one = told 0 n in
      same_traces weight (roomy_cost 0) (fused_setting setting) n fused_first
      ∙ (one.told ∙ same_traces (roomy_cost 0) weight setting one.at (counted_first_state setting input))

  -- with the same cells
  stores : (weight : CountedState → ℕ) (n : ℕ)
      → forwards (counted_after weight setting input (states weight n).0).heap
      ≡ forwards (counted_after weight (fused_setting setting) input n).heap
  stores weight n =
      same_store (counted_after weight setting input (states weight n).0).heap
      (counted_after weight (fused_setting setting) input n).heap (sym (states weight n).1.cells)

  -- fused code runs the same
  pub fused_run : IsFusedRun setting most input
  fused_run =
      record {
        agrees = agrees;
        fits = λ weight n.
            let one = states weight n in
            control_fits (counted_after weight setting input one.0).heap (counted_after weight (fused_setting setting) input n).heap
            (counted_after weight setting input one.0).control (counted_after weight (fused_setting setting) input n).control
            one.1.control (fits weight one.0);
        shape = λ weight n.
            let one = states weight n in
            control_shape setting.program.functions (forwards (counted_after weight (fused_setting setting) input n).heap)
            (counted_after weight setting input one.0).heap (counted_after weight (fused_setting setting) input n).heap
            (counted_after weight setting input one.0).control (counted_after weight (fused_setting setting) input n).control
            one.1.control
            (subst (λ (store : Store). HasShape setting.program.functions store (counted_after weight setting input one.0).control)
            (stores weight n) (shape weight one.0));
        never_stuck = λ weight n.
            let one = states weight n in
            control_goes (counted_after weight setting input one.0).heap (counted_after weight (fused_setting setting) input n).heap
            (counted_after weight setting input one.0).control (counted_after weight (fused_setting setting) input n).control
            one.1.control (never_stuck positions setting weight input spent (fits weight) (shape weight) one.0);
        states = states;
      }

  -- no cell is left at the end, if the code leaves none
  pub fused_clean : ((weight : CountedState → ℕ) (n : ℕ) → (counted_after weight setting input n).control ≡ stopped ended
      → busy (counted_after weight setting input n).heap ≡ 0)
      → (weight : CountedState → ℕ) (n : ℕ) → (counted_after weight (fused_setting setting) input n).control ≡ stopped ended
      → busy (counted_after weight (fused_setting setting) input n).heap ≡ 0
  fused_clean clean weight n at =
      let one = states weight n in
      let both = control_ends (counted_after weight setting input one.0).heap
      (counted_after weight (fused_setting setting) input n).heap (counted_after weight setting input one.0).control
      (counted_after weight (fused_setting setting) input n).control ended one.1.control at in
      ap busy both.1 ∙ clean weight one.0 both.0

  -- a test of a count is one of the code, with the same counts and behind the same notes
  pub fused_tests : (weight : CountedState → ℕ) (n x c : ℕ) (fields used : List ℕ) (rest : Counted) (environment : Environment)
      (joins : List CountedJoin)
      → (counted_after weight (fused_setting setting) input n).control ≡ running (if_unique x c fields used rest) environment joins
      → (m : ℕ) × ((trace (counted_machine weight (fused_setting setting)) n (counted_first_state (fused_setting setting) input)
      ≡ trace (counted_machine weight setting) m (counted_first_state setting input))
      × IsSameTest (counted_after weight setting input m).heap (counted_after weight (fused_setting setting) input n).heap
      (counted_after weight setting input m).control x c fields used environment)
  fused_tests weight n x c fields used rest environment joins at =
      let one = states weight n in (
        one.0,
        (
          notes weight n,
          control_tests (counted_after weight setting input one.0).heap (counted_after weight (fused_setting setting) input n).heap
              (counted_after weight setting input one.0).control (counted_after weight (fused_setting setting) input n).control x c
              fields used rest environment joins one.1.control at,
        ),
      )

  -- values are of the kinds that are asked for
  pub fused_kinds : (alike : ℕ → ℕ → Type 0) (fields : ℕ → ℕ) (weight other : CountedState → ℕ)
      → HasKindsAlways alike fields weight setting input → HasKindsAlways alike fields other (fused_setting setting) input
  fused_kinds alike fields weight other kinds = λ n.
      let one = states other n in
      control_kinds alike fields (counted_after other setting input one.0).heap
      (counted_after other (fused_setting setting) input n).heap (counted_after other setting input one.0).control
      (counted_after other (fused_setting setting) input n).control (stores other n) one.1.control
      (subst (λ (s : CountedState). HasKinds alike fields s.machine.heap s.machine.control)
      (same_states weight other setting one.0 (counted_first_state setting input)) (kinds one.0))
