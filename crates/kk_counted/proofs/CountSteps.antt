-- Runs keep the bounds of what functions own, of call frames and of cells.
use Rattle.std.proofs.Common.{◌≡◌, ℕ, zero, suc, ◌+◌, ◌≤◌, Bool, true, false, List, [], ◌∷◌, length, map, Option, Some, None, arith, refl, sym, subst}
use Rattle.std.proofs.lemmas.Option.{get_or_from_slice_get}
use Rattle.std.specs.Prelude.{slice_get, nat_le, if◌then◌else◌}
use Rattle.std.specs.Fmt.{signed_decimal}
use Rattle.kk_base.specs.Machines.{step_unless, state}
use Rattle.kk_core.specs.CoreMachine.{bind_fields}
use Rattle.kk_core.specs.Decisions.{chosen}
use Rattle.kk_counted.proofs.HeapChanges.{EasedTo, eased_same, eased_dup, eased_drop, eased_opening, eased_unique, fewer_busy}
use Rattle.kk_counted.proofs.SoundRuns.{performed_kept}
use Rattle.kk_counted.proofs.SoundSteps.{LeadsTo}
use Rattle.kk_counted.specs.CountBounds.{SpendsAtMost, SpendAtMost, AllSpendAtMost, JoinsSpend, RestSpends, FramesSpend, ControlSpends, IsBounded}
use Rattle.kk_counted.specs.CountedCodes.{Counted, give, tail_call, case, compute, inside, read, open_cell, if_unique, dup, drop, CountedArms, no_arm, arm, CountedFunction}
use Rattle.kk_counted.specs.CountedMachine.{at_counted, bound_then, at_end, at_stuck, with_heap, arm_at, case_step, give_step, in_code, tail_step, Named, used_values, other_values, opened_heap, unique_heap, open_step, call_step, form_step, counted_code_step, counted_step_at, counted_step_of, counted_step, counted_ending_of, counted_machine}
use Rattle.kk_counted.specs.CountedStates.{CountedSetting, CountedJoin, CountedFrame, CountedControl, running, stopped, stuck, CountedConfiguration, CountedState, no_function, counted_start, counted_first_state}
use Rattle.kk_counted.specs.Heaps.{Heap, count_at, busy, dup_value, drop_value}
use Rattle.kk_counted.specs.Keeping.{counted_after}
use Rattle.kk_source.specs.Actions.{print_step}
use Rattle.kk_source.specs.FormEffects.{unary_result, binary_result, integer_of, argument, piece_of, byte_value}
use Rattle.kk_source.specs.Live.{value_of}
use Rattle.kk_source.specs.Matching.{and_then}
use Rattle.kk_source.specs.State.{Value, integer, unit, constant, place, Environment, End, heap_full, stack_full}
use Rattle.kk_syntax.specs.Programs.{text_at}
use Rattle.kk_syntax.specs.declared.program.Form.{Form}
use Rattle.kk_syntax.specs.declared.program.Form.TheVariants.{Number, Unit as Nothing, ReadByte, PrintText, Unary, Binary, Print, Construct, Call}

abbrev OnArm : ℕ → Option Counted → Type 0
OnArm n None = Unit {0}
OnArm n (Some code) = SpendsAtMost code n

arms_spend : (n : ℕ) (arms : CountedArms) (row : ℕ) → SpendAtMost arms n → OnArm n (arm_at arms row)
arms_spend n no_arm row small = tt
arms_spend n (arm body rest) zero small = small.0
arms_spend n (arm body rest) (suc row) small = arms_spend n rest row small.1

row_spends : (n : ℕ) (arms : CountedArms) (row : Option ℕ) → SpendAtMost arms n → OnArm n (and_then row (arm_at arms))
row_spends n arms None small = tt
row_spends n arms (Some row) small = arms_spend n arms row small

module _ (setting : CountedSetting) (most : ℕ) (all : AllSpendAtMost setting.program most) (deep : 1 ≤ setting.depth) where
  abbrev Bounded : CountedConfiguration → Type 0
  Bounded c = IsBounded setting most c

  entered : (f : ℕ) (function : CountedFunction) (values : List Value) (from : CountedConfiguration)
      → slice_get setting.program.functions f ≡ Some function → suc (length from.frames) ≤ setting.depth
      → FramesSpend from.frames most
      → busy from.heap ≤ setting.cells → Bounded (in_code function values from)
  entered f function values from there few frames cells =
      record {
        control_spends = ((most, (0, (omega arith, (all f function there, tt)))), few);
        frames_spend = frames;
        cells_busy = cells;
      }

  module _ (from : CountedConfiguration) (environment : Environment) (joins : List CountedJoin)
      (frames : FramesSpend from.frames most)
      (cells : busy from.heap ≤ setting.cells) (few : suc (length from.frames) ≤ setting.depth) where
    stuck_bounded : Bounded (at_stuck from)
    stuck_bounded = record { control_spends = tt; frames_spend = frames; cells_busy = cells }

    end_bounded : (end : End) → Bounded (at_end end from)
    end_bounded end = record { control_spends = tt; frames_spend = frames; cells_busy = cells }

    goes_on : (code : Counted) (now : Environment) (next : List CountedJoin) → RestSpends code next most → Bounded
        (at_counted code now next from)
    goes_on code now next rest = record { control_spends = (rest, few); frames_spend = frames; cells_busy = cells }

    heap_bounded : (result : Option Heap) (code : Counted) (now : Environment) → EasedTo from.heap result
        → RestSpends code joins most
        → Bounded (with_heap result from (at_counted code now joins from))
    heap_bounded None code now eased rest = stuck_bounded
    heap_bounded (Some heap) code now eased rest =
        record {
          control_spends = (rest, few);
          frames_spend = frames;
          cells_busy = omega (arith, fewer_busy from.heap heap eased, cells);
        }

    case_bounded : (n m : ℕ) (found : Option Counted) → OnArm n found → n + m ≤ most → JoinsSpend joins m
        → LeadsTo Bounded (case_step found environment joins from)
    case_bounded n m None on less waits = stuck_bounded
    case_bounded n m (Some body) on less waits = goes_on body environment joins (n, (m, (less, (on, waits))))

    give_bounded : (v : Value) (next : List CountedJoin) (older : List CountedFrame) (n : ℕ) → JoinsSpend next n → n ≤ most
        → FramesSpend older most → length older ≤ length from.frames → LeadsTo Bounded (give_step v next older environment from)
    give_bounded v (join ∷ next) older n waits less these shorter =
        goes_on join.rest (record { variable = join.variable; value = v } ∷ environment) next
        (waits.0, (waits.1.0, (omega (arith, waits.1.1.0, less), (waits.1.1.1.0, waits.1.1.1.1))))
    give_bounded v [] (frame ∷ older) n waits less these shorter =
        record {
          control_spends = (these.0, omega (arith, few, shorter));
          frames_spend = these.1;
          cells_busy = cells;
        }
    give_bounded v [] [] n waits less these shorter = end_bounded _

    tail_bounded : (f : ℕ) (arguments : List Value) (found : Option CountedFunction) → slice_get setting.program.functions f ≡ found
        → LeadsTo Bounded (tail_step found arguments from)
    tail_bounded f arguments None there = stuck_bounded
    tail_bounded f arguments (Some function) there = entered f function arguments from there few frames cells

    opening_bounded : (fields : List ℕ) (rest : Counted) (change : Named → Option Heap) (found : Option Named)
        → ((named : Named) → EasedTo from.heap (change named)) → RestSpends rest joins most
        → LeadsTo Bounded (open_step found change fields rest environment joins from)
    opening_bounded fields rest change None eased spends = stuck_bounded
    opening_bounded fields rest change (Some named) eased spends =
        heap_bounded (change named) rest (bind_fields fields named.fields environment) (eased named) spends

    module _ (x : ℕ) (rest : Counted) (spends : RestSpends rest joins most) where
      valued : (v : Value) → Bounded (bound_then x v rest environment joins from)
      valued v = goes_on rest (record { variable = x; value = v } ∷ environment) joins spends

      printed : (piece : List ℕ) → LeadsTo Bounded (print_step piece (bound_then x unit rest environment joins from))
      printed [] = valued unit
      printed (byte ∷ bytes) = valued unit

      room_or : (count found : ℕ) (t : Bool) → nat_le count found ≡ t → t ≡ false → suc found ≤ count
      room_or count found t is fails = grind arith

      made : (c : ℕ) (values : List Value) → LeadsTo Bounded (form_step setting (Construct c) values x rest environment joins from)
      made c [] = valued (constant c)
      made c (v ∷ vs) = by_test (nat_le setting.cells (busy from.heap)) refl
        where
          by_test : (t : Bool) → nat_le setting.cells (busy from.heap) ≡ t
              → Bounded (if t then at_end heap_full from else record
              (bound_then x (place (length from.heap)) rest environment joins from) {
                heap = record { count = 1; cell = record { made_by = c; fields = v ∷ vs } } ∷ from.heap;
              })
          by_test true is = end_bounded heap_full
          by_test false is =
              record {
                control_spends = (spends, few);
                frames_spend = frames;
                cells_busy = omega (arith, room_or setting.cells (busy from.heap) false is refl);
              }

      called : (f : ℕ) (arguments : List Value) (found : Option CountedFunction) → slice_get setting.program.functions f ≡ found
          → LeadsTo Bounded (call_step setting found arguments
          (record { variable = x; rest = rest; joins = joins; environment = environment }) from)
      called f arguments None there = stuck_bounded
      called f arguments (Some function) there = by_test (nat_le setting.depth (suc (length from.frames))) refl
        where
          by_test : (t : Bool) → nat_le setting.depth (suc (length from.frames)) ≡ t
              → Bounded (if t then at_end stack_full from else in_code function arguments
              (record from {
                frames = record { variable = x; rest = rest; joins = joins; environment = environment } ∷ from.frames;
              }))
          by_test true is = end_bounded stack_full
          by_test false is =
              entered f function arguments
              (record from {
                frames = record { variable = x; rest = rest; joins = joins; environment = environment } ∷ from.frames;
              }) there
              (omega (arith, room_or setting.depth (suc (length from.frames)) false is refl)) (spends, frames) cells

      form_bounded : (form : Form) (values : List Value) → LeadsTo Bounded
          (form_step setting form values x rest environment joins from)
      form_bounded (Number n) values = valued (integer n)
      form_bounded Nothing values = valued unit
      form_bounded ReadByte values = λ byte. valued (byte_value byte)
      form_bounded (PrintText form text) values = printed (piece_of form (text_at setting.program.texts text))
      form_bounded (Unary operator) values = valued (unary_result operator (argument 0 values))
      form_bounded (Binary operator) values = valued (binary_result operator (argument 0 values) (argument 1 values))
      form_bounded (Print form) values = printed (piece_of form (signed_decimal (integer_of (argument 0 values))))
      form_bounded (Construct c) values = made c values
      form_bounded (Call f) values = called f values (slice_get setting.program.functions f) refl

    code_bounded : (code : Counted) → RestSpends code joins most → LeadsTo Bounded
        (counted_code_step setting code environment joins from)
    code_bounded (give x) r = give_bounded (value_of environment x) joins from.frames r.1.0 r.1.1.1.1
        (omega (arith, r.1.1.0)) frames (omega arith)
    code_bounded (tail_call f arguments) r = tail_bounded f (map (value_of environment) arguments)
        (slice_get setting.program.functions f) refl
    code_bounded (case x decisions arms) r =
        case_bounded r.0 r.1.0 _ (row_spends r.0 arms (chosen _ (value_of environment x) decisions) r.1.1.1.0.1) r.1.1.0 r.1.1.1.1
    code_bounded (compute x form arguments rest) r =
        form_bounded x rest (r.1.1.1.0.0, (r.1.0, (omega (arith, r.1.1.0, r.1.1.1.0.1.0), (r.1.1.1.0.1.1, r.1.1.1.1)))) form
        (map (value_of environment) arguments)
    code_bounded (inside x block rest) r =
        let s = r.1.1.1.0 in
        goes_on block environment (record { variable = x; rest = rest } ∷ joins) (
          s.0,
          (
            s.1.0 + r.1.0,
            (
              omega (arith, r.1.1.0, s.1.1.0),
              (s.1.1.1.0, (s.1.0, (r.1.0, (omega arith, (s.1.1.1.1, r.1.1.1.1))))),
            ),
          ),
        )
    code_bounded (read x c fields rest) r =
        opening_bounded fields rest (λ named. Some from.heap) _ (λ named. eased_same from.heap) r
    code_bounded (open_cell x c fields used rest) r =
        opening_bounded fields rest (λ named. opened_heap named.at (used_values used fields named.fields) from.heap) _
        (λ named. eased_opening named.at (used_values used fields named.fields) from.heap)
        (r.1.1.1.0.0, (r.1.0, (omega (arith, r.1.1.0, r.1.1.1.0.1.0), (r.1.1.1.0.1.1, r.1.1.1.1))))
    code_bounded (if_unique x c fields used rest) r =
        opening_bounded fields rest
        (λ named.
        unique_heap (count_at from.heap named.at) named.at (used_values used fields named.fields)
        (other_values used fields named.fields) from.heap) _
        (λ named.
        eased_unique (count_at from.heap named.at) named.at (used_values used fields named.fields)
        (other_values used fields named.fields) from.heap refl)
        (r.1.1.1.0.0, (r.1.0, (omega (arith, r.1.1.0, r.1.1.1.0.1.0), (r.1.1.1.0.1.1, r.1.1.1.1))))
    code_bounded (dup x rest) r = heap_bounded (dup_value (value_of environment x) from.heap) rest environment
        (eased_dup (value_of environment x) from.heap) r
    code_bounded (drop x rest) r =
        heap_bounded (drop_value (value_of environment x) from.heap) rest environment
        (eased_drop (value_of environment x) from.heap)
        (r.1.1.1.0.0, (r.1.0, (omega (arith, r.1.1.0, r.1.1.1.0.1.0), (r.1.1.1.0.1.1, r.1.1.1.1))))

  control_bounded : (control : CountedControl) (c : CountedConfiguration) → ControlSpends control
      (length c.frames) setting.depth most → Bounded c
      → LeadsTo Bounded (counted_step_at setting control c)
  control_bounded (running code environment joins) c spends bounded =
      code_bounded c environment joins bounded.frames_spend bounded.cells_busy spends.1 code spends.0
  control_bounded (stopped by) c spends bounded = bounded
  control_bounded stuck c spends bounded = bounded

  pub step_bounded : (c : CountedConfiguration) → Bounded c → LeadsTo Bounded (counted_step_of setting c)
  step_bounded c bounded = control_bounded c.control c bounded.control_spends bounded

  module _ (main : CountedFunction) (there : slice_get setting.program.functions setting.program.main ≡ Some main) where
    start_bounded : Bounded (counted_start setting)
    start_bounded =
        subst (λ (function : CountedFunction). Bounded (record { control = running function.body [] []; frames = []; heap = [] }))
        (sym (get_or_from_slice_get setting.program.functions setting.program.main main no_function there))
        (entered setting.program.main main [] (record { control = stuck; frames = []; heap = [] }) there (omega (arith, deep)) tt
        (omega arith))

    module _ (weight : CountedState → ℕ) where
      next_bounded : (s : CountedState) (how : Option End) → Bounded s.machine → Bounded
          (step_unless how s (counted_step setting s)).1.machine
      next_bounded s None bounded = performed_kept Bounded (counted_step_of setting s.machine) s.input
          (step_bounded s.machine bounded)
      next_bounded s (Some end) bounded = bounded

      run_bounded : (n : ℕ) (s : CountedState) → Bounded s.machine → Bounded (state (counted_machine weight setting) n s).machine
      run_bounded zero s bounded = bounded
      run_bounded (suc n) s bounded =
          run_bounded n ((counted_machine weight setting).step s).1 (next_bounded s (counted_ending_of s) bounded)

      pub always_bounded : (input : List ℕ) (n : ℕ) → Bounded (counted_after weight setting input n)
      always_bounded input n = run_bounded n (counted_first_state setting input) start_bounded
