-- Runs of code that spends what it owns.
use Rattle.std.proofs.Common.{◌≡◌, ℕ, zero, suc, ◌+◌, List, [], ◌∷◌, Option, Some, None, arith, refl, sym, ap, ◌∙◌, subst}
use Rattle.std.proofs.lemmas.Option.{get_or_from_slice_get}
use Rattle.kk_base.specs.Machines.{step_unless, state}
use Rattle.kk_syntax.specs.PositionsOf.{PositionTable}
use Rattle.kk_source.specs.State.{Value, integer, unit, constant, place, Environment, End}
use Rattle.kk_source.specs.Live.{value_of}
use Rattle.kk_source.specs.Actions.{Action, goes, puts, takes, builds, calls, performed}
use Rattle.kk_counted.specs.CountedCodes.{give, CountedFunction}
use Rattle.kk_counted.specs.Heaps.{Heap, count_at, fields_held, forwards, busy}
use Rattle.kk_counted.specs.CountedStates.{CountedSetting, running, stuck, CountedConfiguration, CountedState, no_function, counted_start, counted_first_state}
use Rattle.kk_counted.specs.CountedMachine.{counted_step_of, counted_step, counted_ending_of, counted_machine, opened_heap, unique_heap}
use Rattle.kk_counted.specs.References.{refs_of, refs, Counts, IsSound, cells_of, counted}
use Rattle.kk_counted.specs.Spending.{AreEven, left_by, IsSpent}
use Rattle.kk_counted.specs.Keeping.{values_of, HasNoCell, FitsAt, Waits, Own, IsRunning, IsKeptAt, IsKept}
use Rattle.kk_counted.proofs.CountChanges.{refs_append}
use Rattle.kk_counted.proofs.Heaps.{Became, with_place, with_fields, opened, opened_by_count}
use Rattle.kk_counted.proofs.Variables.{even_refs}
use Rattle.kk_counted.proofs.Reachability.{HasOlder, older_same, counted_is, none_counted}
use Rattle.kk_counted.proofs.SoundSteps.{LeadsTo, entered, step_kept}

pub performed_kept : (P : CountedConfiguration → Type 0) (action : Action CountedConfiguration) (input : List ℕ) → LeadsTo P action → P (performed action input).1.machine
performed_kept P (goes to) input kept = kept
performed_kept P (puts piece to) input kept = kept
performed_kept P (takes to) [] kept = kept None
performed_kept P (takes to) (byte ∷ input) kept = kept (Some byte)
performed_kept P (builds found to) input kept = kept
performed_kept P (calls found to) input kept = kept

no_refs_of : (v : Value) (q : ℕ) → HasNoCell v → refs_of v q ≡ 0
no_refs_of (integer n) q none = refl
no_refs_of unit q none = refl
no_refs_of (constant c) q none = refl
no_refs_of (place at) q none = absurd none

module _ (positions : PositionTable) (setting : CountedSetting) (spent : IsSpent positions setting.program) where
  start_kept : IsKept positions setting.program.functions (counted_start setting)
  start_kept =
      subst (λ (function : CountedFunction). IsKept positions setting.program.functions (record { control = running function.body [] []; frames = []; heap = [] }))
      (sym (get_or_from_slice_get setting.program.functions setting.program.main spent.main.0 no_function spent.main.1.0))
      (entered positions setting spent setting.program.main spent.main.0 [] (record { control = stuck; frames = []; heap = [] }) [] [] spent.main.1.0
      spent.main.1.1 refl (λ at among. absurd among) (λ q. refl) (record { counts = λ q. refl; older = λ at. tt }))

  module _ (weight : CountedState → ℕ) where
    next_kept : (s : CountedState) (how : Option End) → FitsAt s.machine.control → IsKept positions setting.program.functions s.machine → IsKept positions setting.program.functions (step_unless how s (counted_step setting s)).1.machine
    next_kept s None fits kept =
        performed_kept (IsKept positions setting.program.functions) (counted_step_of setting s.machine) s.input (step_kept positions setting spent s.machine fits kept)
    next_kept s (Some end) fits kept = kept

    run_kept : (n : ℕ) (s : CountedState) → ((k : ℕ) → FitsAt (state (counted_machine weight setting) k s).machine.control) → IsKept positions setting.program.functions s.machine → IsKept positions setting.program.functions (state (counted_machine weight setting) n s).machine
    run_kept zero s fits kept = kept
    run_kept (suc n) s fits kept =
        run_kept n ((counted_machine weight setting).step s).1 (λ k. fits (suc k)) (next_kept s (counted_ending_of s) (fits zero) kept)

-- the heap is sound in each state of a run
pub keeps_sound : (positions : PositionTable) (setting : CountedSetting) (weight : CountedState → ℕ) (input : List ℕ) → IsSpent positions setting.program
    → ((k : ℕ) → FitsAt (state (counted_machine weight setting) k (counted_first_state setting input)).machine.control)
    → (n : ℕ) → IsKept positions setting.program.functions (state (counted_machine weight setting) n (counted_first_state setting input)).machine
keeps_sound positions setting weight input spent fits n =
    run_kept positions setting spent weight n (counted_first_state setting input) fits (start_kept positions setting spent)

-- where the last function gives a value without cells, no cell is counted
pub none_left : (positions : PositionTable) (functions : List CountedFunction) (c : CountedConfiguration) (x : ℕ) (environment : Environment) → IsKept positions functions c → c.control ≡ running (give x) environment [] → c.frames ≡ [] → HasNoCell (value_of environment x) → busy c.heap ≡ 0
none_left positions functions c x environment kept control frames none =
    none_counted c.heap at.sound.older
    (λ q less. omega (arith, at.sound.counts q, refs_append (values_of environment at.owned) kept.0 q, ap (λ vs. refs vs q) below, by_left at.left at.waits at.spends q))
  where
    at : IsRunning positions functions c.heap kept.0 (give x) environment []
    at = subst (λ control. IsKeptAt positions functions c.heap kept.0 control) control kept.1.1

    below : kept.0 ≡ []
    below = subst (λ frames. Own positions functions (forwards c.heap) frames kept.0) frames kept.1.0

    by_left : (left : Option (List ℕ)) → Waits positions functions at.lent left [] → AreEven at.owned (x ∷ left_by left) → (q : ℕ) → refs (values_of environment at.owned) q ≡ 0
    by_left None waits even q = omega (arith, even_refs environment at.owned (x ∷ []) q even, no_refs_of (value_of environment x) q none)
    by_left (Some left) waits even q = absurd waits

-- Both ways of opening a cell leave the same heap: that of what is owned then.
pub openings_are_one : (at : ℕ) (used others : List Value) (kept : ℕ → ℕ) (heap : Heap) → Counts (with_place at kept) heap → HasOlder heap → ((q : ℕ) → refs (fields_held heap at) q ≡ refs used q + refs others q) → unique_heap (count_at heap at) at used others heap ≡ opened_heap at used heap
openings_are_one at used others kept heap counts older parts =
    one.is ∙ (ap (λ other. Some other) (same one.heap one.counts one.cells ∙ sym (same two.heap two.counts two.cells)) ∙ sym two.is)
  where
    one : Became heap (unique_heap (count_at heap at) at used others heap) (with_fields used kept)
    one = opened_by_count at used others kept heap counts parts

    two : Became heap (opened_heap at used heap) (with_fields used kept)
    two = opened at used others kept heap counts parts

    same : (other : Heap) → Counts (with_fields used kept) other → cells_of other ≡ cells_of heap → other ≡ counted (with_fields used kept) (cells_of heap)
    same other right cells =
        counted_is other (with_fields used kept) (older_same heap other cells older) (λ q less. right q) ∙ ap (counted (with_fields used kept)) cells

pub leaves_no_cell : (positions : PositionTable) (setting : CountedSetting) (weight : CountedState → ℕ) (input : List ℕ) → IsSpent positions setting.program
    → ((k : ℕ) → FitsAt (state (counted_machine weight setting) k (counted_first_state setting input)).machine.control)
    → (n x : ℕ) (environment : Environment)
    → (state (counted_machine weight setting) n (counted_first_state setting input)).machine.control ≡ running (give x) environment []
    → (state (counted_machine weight setting) n (counted_first_state setting input)).machine.frames ≡ []
    → HasNoCell (value_of environment x) → busy (state (counted_machine weight setting) n (counted_first_state setting input)).machine.heap ≡ 0
leaves_no_cell positions setting weight input spent fits n x environment =
    none_left positions setting.program.functions (state (counted_machine weight setting) n (counted_first_state setting input)).machine x environment
    (keeps_sound positions setting weight input spent fits n)

pub sound_heap_is : (owned : List Value) (heap : Heap) → IsSound owned heap → heap ≡ counted (refs owned) (cells_of heap)
sound_heap_is owned heap sound = counted_is heap (refs owned) sound.older (λ q less. sound.counts q)

pub openings_are_alike : (at : ℕ) (used others kept : List Value) (heap : Heap) → IsSound (place at ∷ kept) heap
    → ((q : ℕ) → refs (fields_held heap at) q ≡ refs used q + refs others q)
    → unique_heap (count_at heap at) at used others heap ≡ opened_heap at used heap
openings_are_alike at used others kept heap sound parts = openings_are_one at used others (refs kept) heap sound.counts sound.older parts
