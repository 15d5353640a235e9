-- In each state of a run code has no more forms than the longest body.
use Rattle.std.proofs.Common.{◌≡◌, ℕ, zero, suc, ◌+◌, ◌≤◌, Bool, true, false, List, [], ◌∷◌, length, map, Option, Some, None, arith, refl, sym, subst}
use Rattle.std.proofs.lemmas.Option.{get_or_from_slice_get}
use Rattle.std.specs.Prelude.{if◌then◌else◌, slice_get, nat_le}
use Rattle.kk_base.specs.Machines.{step_unless, state}
use Rattle.kk_source.specs.State.{Value, unit, place, Environment, End, heap_full, stack_full}
use Rattle.kk_source.specs.Live.{value_of}
use Rattle.kk_source.specs.Matching.{and_then}
use Rattle.kk_source.specs.Actions.{print_step}
use Rattle.kk_source.specs.FormEffects.{FormEffect, gives, prints, reads, makes, enters, form_effect, effect_step}
use Rattle.kk_core.specs.CoreMachine.{bind_fields}
use Rattle.kk_core.specs.Decisions.{chosen}
use Rattle.kk_counted.specs.CountedCodes.{Counted, give, tail_call, case, compute, inside, read, open_cell, if_unique, dup, drop, CountedArms, no_arm, arm, CountedFunction}
use Rattle.kk_counted.specs.Heaps.{Heap, count_at, cell_at, busy, dup_value, drop_value}
use Rattle.kk_counted.specs.CountedStates.{CountedSetting, CountedJoin, CountedFrame, CountedControl, running, stopped, stuck, CountedConfiguration, CountedState, no_function, counted_start}
use Rattle.kk_counted.specs.CountedMachine.{at_counted, bound_then, at_end, with_heap, arm_at, case_step, give_step, in_code, tail_step, Named, cell_named, used_values, other_values, opened_heap, unique_heap, open_step, construct_step, call_step, counted_code_step, counted_step_at, counted_step_of, counted_step, counted_ending_of, counted_machine}
use Rattle.kk_counted.proofs.SoundSteps.{LeadsTo}
use Rattle.kk_counted.proofs.SoundRuns.{performed_kept}
use Rattle.kk_fuse.specs.FusedRuns.{steps_in, steps_in_arms, HasFewSteps}

module _ (most : ℕ) where
  abbrev pub FewJoins : List CountedJoin → Type 0
  FewJoins [] = Unit {0}
  FewJoins (join ∷ joins) = (steps_in join.rest ≤ most) × FewJoins joins

  abbrev pub FewFrames : List CountedFrame → Type 0
  FewFrames [] = Unit {0}
  FewFrames (frame ∷ frames) = (steps_in frame.rest ≤ most) × (FewJoins frame.joins × FewFrames frames)

  abbrev pub FewControl : CountedControl → Type 0
  FewControl (running code environment joins) = (steps_in code ≤ most) × FewJoins joins
  FewControl (stopped by) = Unit {0}
  FewControl stuck = Unit {0}

  -- the code that runs, and each that waits, has so many forms at most
  abbrev pub AreFew : CountedConfiguration → Type 0
  AreFew c = FewControl c.control × FewFrames c.frames

  few_give : (v : Value) (joins : List CountedJoin) (frames : List CountedFrame) (environment : Environment)
      (from : CountedConfiguration) → FewJoins joins → FewFrames frames → FewFrames from.frames
      → LeadsTo AreFew (give_step v joins frames environment from)
  few_give v (join ∷ joins) frames environment from in_joins in_frames these = (in_joins, these)
  few_give v [] (frame ∷ older) environment from in_joins in_frames these = ((in_frames.0, in_frames.1.0), in_frames.1.1)
  few_give v [] [] environment from in_joins in_frames these = (tt, these)

  few_heap : (result : Option Heap) (from to : CountedConfiguration) → FewFrames from.frames → AreFew to
      → AreFew (with_heap result from to)
  few_heap None from to these few = (tt, these)
  few_heap (Some heap) from to these few = few

  few_open : (found : Option Named) (heap : Named → Option Heap) (fields : List ℕ) (rest : Counted) (environment : Environment)
      (joins : List CountedJoin) (from : CountedConfiguration) → steps_in rest ≤ most → FewJoins joins → FewFrames from.frames
      → LeadsTo AreFew (open_step found heap fields rest environment joins from)
  few_open None heap fields rest environment joins from short in_joins these = (tt, these)
  few_open (Some named) heap fields rest environment joins from short in_joins these =
      few_heap (heap named) from (at_counted rest (bind_fields fields named.fields environment) joins from) these
      ((short, in_joins), these)

  few_print : (piece : List ℕ) (to : CountedConfiguration) → AreFew to → LeadsTo AreFew (print_step piece to)
  few_print [] to few = few
  few_print (byte ∷ bytes) to few = few

  few_either : (full : Bool) (end to : CountedConfiguration) → AreFew end → AreFew to → AreFew (if full then end else to)
  few_either true end to first second = first
  few_either false end to first second = second

  -- the arm that is taken
  few_arm : (arms : CountedArms) (row : ℕ) (body : Counted) → arm_at arms row ≡ Some body → steps_in body ≤ steps_in_arms arms
  few_arm no_arm row body is = absurd (cc)
  few_arm (arm first rest) zero body is =
      let same : first ≡ body = cc in
      subst (λ (code : Counted). steps_in code ≤ steps_in first + steps_in_arms rest) same (omega arith)
  few_arm (arm first rest) (suc row) body is = omega (arith, few_arm rest row body is)

  few_row : (row : Option ℕ) (arms : CountedArms) (body : Counted) → and_then row (arm_at arms) ≡ Some body
      → steps_in body ≤ steps_in_arms arms
  few_row None arms body is = absurd (cc)
  few_row (Some row) arms body is = few_arm arms row body is

  few_case : (found : Option Counted) (environment : Environment) (joins : List CountedJoin) (from : CountedConfiguration)
      → ((body : Counted) → found ≡ Some body → steps_in body ≤ most) → FewJoins joins → FewFrames from.frames
      → LeadsTo AreFew (case_step found environment joins from)
  few_case None environment joins from each in_joins these = (tt, these)
  few_case (Some body) environment joins from each in_joins these = ((each body refl, in_joins), these)

  module _ (setting : CountedSetting) (short : HasFewSteps most setting.program) where
    few_tail : (f : ℕ) (found : Option CountedFunction) (values : List Value) (from : CountedConfiguration)
        → slice_get setting.program.functions f ≡ found → FewFrames from.frames → LeadsTo AreFew (tail_step found values from)
    few_tail f None values from is these = (tt, these)
    few_tail f (Some function) values from is these = ((short f function is, tt), these)

    few_call : (f : ℕ) (found : Option CountedFunction) (values : List Value) (waiting : CountedFrame) (from : CountedConfiguration)
        → slice_get setting.program.functions f ≡ found → steps_in waiting.rest ≤ most → FewJoins waiting.joins
        → FewFrames from.frames → LeadsTo AreFew (call_step setting found values waiting from)
    few_call f None values waiting from is rest joins these = (tt, these)
    few_call f (Some function) values waiting from is rest joins these =
        few_either (nat_le setting.depth (suc (length from.frames))) (at_end stack_full from)
        (in_code function values (record from { frames = waiting ∷ from.frames })) (tt, these)
        ((short f function is, tt), (rest, (joins, these)))

    few_effect : (effect : FormEffect) (x : ℕ) (rest : Counted) (environment : Environment) (joins : List CountedJoin)
        (from : CountedConfiguration) → steps_in rest ≤ most → FewJoins joins → FewFrames from.frames
        → LeadsTo AreFew (effect_step (λ v. bound_then x v rest environment joins from)
        (λ c fields. construct_step setting c fields (λ v. bound_then x v rest environment joins from) from)
        (λ f arguments. call_step setting (slice_get setting.program.functions f) arguments
        (record { variable = x; rest = rest; joins = joins; environment = environment }) from) effect)
    few_effect (gives v) x rest environment joins from few in_joins these = ((few, in_joins), these)
    few_effect (prints piece) x rest environment joins from few in_joins these =
        few_print piece (bound_then x unit rest environment joins from) ((few, in_joins), these)
    few_effect reads x rest environment joins from few in_joins these = λ byte. ((few, in_joins), these)
    few_effect (makes c fields) x rest environment joins from few in_joins these =
        few_either (nat_le setting.cells (busy from.heap)) (at_end heap_full from)
        (record (bound_then x (place (length from.heap)) rest environment joins from) {
          heap = record { count = 1; cell = record { made_by = c; fields = fields } } ∷ from.heap;
        })
        (tt, these) ((few, in_joins), these)
    few_effect (enters f arguments) x rest environment joins from few in_joins these =
        few_call f (slice_get setting.program.functions f) arguments
        (record { variable = x; rest = rest; joins = joins; environment = environment }) from refl few in_joins these

    -- a step at a code leads to code that is as short
    few_code : (code : Counted) (environment : Environment) (joins : List CountedJoin) (from : CountedConfiguration)
        → steps_in code ≤ most → FewJoins joins → FewFrames from.frames
        → LeadsTo AreFew (counted_code_step setting code environment joins from)
    few_code (give x) environment joins from few in_joins these =
        few_give (value_of environment x) joins from.frames environment from in_joins these these
    few_code (tail_call f arguments) environment joins from few in_joins these =
        few_tail f (slice_get setting.program.functions f) (map (value_of environment) arguments) from refl these
    few_code (case x decisions arms) environment joins from few in_joins these =
        few_case (and_then (chosen (cell_at from.heap) (value_of environment x) decisions) (arm_at arms)) environment joins from
        (λ body is. omega (arith, few, few_row (chosen (cell_at from.heap) (value_of environment x) decisions) arms body is))
        in_joins these
    few_code (compute x form arguments rest) environment joins from few in_joins these =
        few_effect (form_effect setting.program.texts form (map (value_of environment) arguments)) x rest environment joins from
        (omega (arith, few)) in_joins these
    few_code (inside x block rest) environment joins from few in_joins these =
        ((omega (arith, few), (omega (arith, few), in_joins)), these)
    few_code (read x c fields rest) environment joins from few in_joins these =
        few_open (cell_named c (length fields) from.heap (value_of environment x)) (λ named. Some from.heap) fields rest environment
        joins from (omega (arith, few)) in_joins these
    few_code (open_cell x c fields used rest) environment joins from few in_joins these =
        few_open (cell_named c (length fields) from.heap (value_of environment x))
        (λ named. opened_heap named.at (used_values used fields named.fields) from.heap) fields rest environment joins from
        (omega (arith, few)) in_joins these
    few_code (if_unique x c fields used rest) environment joins from few in_joins these =
        few_open (cell_named c (length fields) from.heap (value_of environment x))
        (λ named. unique_heap (count_at from.heap named.at) named.at (used_values used fields named.fields)
        (other_values used fields named.fields) from.heap) fields rest environment joins from (omega (arith, few)) in_joins these
    few_code (dup x rest) environment joins from few in_joins these =
        few_heap (dup_value (value_of environment x) from.heap) from (at_counted rest environment joins from) these
        ((omega (arith, few), in_joins), these)
    few_code (drop x rest) environment joins from few in_joins these =
        few_heap (drop_value (value_of environment x) from.heap) from (at_counted rest environment joins from) these
        ((omega (arith, few), in_joins), these)

    few_control : (control : CountedControl) (c : CountedConfiguration) → FewControl control → AreFew c
        → LeadsTo AreFew (counted_step_at setting control c)
    few_control (running code environment joins) c at few = few_code code environment joins c at.0 at.1 few.1
    few_control (stopped by) c at few = few
    few_control stuck c at few = few

    module _ (weight : CountedState → ℕ) where
      next_few : (s : CountedState) (how : Option End) → AreFew s.machine
          → AreFew (step_unless how s (counted_step setting s)).1.machine
      next_few s None few =
          performed_kept AreFew (counted_step_of setting s.machine) s.input (few_control s.machine.control s.machine few.0 few)
      next_few s (Some end) few = few

      -- in each state of a run
      pub run_few : (n : ℕ) (s : CountedState) → AreFew s.machine → AreFew (state (counted_machine weight setting) n s).machine
      run_few zero s few = few
      run_few (suc n) s few = run_few n ((counted_machine weight setting).step s).1 (next_few s (counted_ending_of s) few)

    -- at the start
    pub start_few : (function : CountedFunction) → slice_get setting.program.functions setting.program.main ≡ Some function
        → AreFew (counted_start setting)
    start_few function is =
        subst (λ (function : CountedFunction). ((steps_in function.body ≤ most) × Unit {0}) × Unit {0})
        (sym (get_or_from_slice_get setting.program.functions setting.program.main function no_function is))
        ((short setting.program.main function is, tt), tt)
