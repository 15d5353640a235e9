-- What it is that an inserted program keeps the meaning of a core program.
use Rattle.std.specs.Prelude.{◌≡◌, ℕ, ◌+◌, ◌*◌, List, Some, slice_get}
use Rattle.kk_base.specs.Agreements.{Agree}
use Rattle.kk_base.specs.Machines.{trace}
use Rattle.kk_source.specs.Notes.{Note}
use Rattle.kk_source.specs.State.{End, ended, heap_full, stack_full}
use Rattle.kk_core.specs.CoreStates.{CoreSetting, core_first_state}
use Rattle.kk_core.specs.CoreMachine.{core_machine}
use Rattle.kk_core.specs.Costs.{roomy_core_cost}
use Rattle.kk_core.specs.Sizes.{most_forms}
use Rattle.kk_counted.specs.CountedCosts.{roomy_cost}
use Rattle.kk_counted.specs.Heaps.{Heap, busy}
use Rattle.kk_counted.specs.CountedStates.{CountedSetting, CountedControl, stopped, CountedConfiguration, CountedState, counted_first_state}
use Rattle.kk_counted.specs.CountedMachine.{counted_machine, NotStuck}
use Rattle.kk_counted.specs.Keeping.{IsKept, counted_after}
use Rattle.kk_insert.specs.Insertion.{inserted}

-- the program inserted, with as many cells and call frames
abbrev pub inserted_setting : CoreSetting → CountedSetting
inserted_setting setting =
    record { program = inserted setting.positions setting.code; cells = setting.cells; depth = setting.depth }

-- so many steps of the core machine may go by for one of the counted machine: uses that drop nothing take no counted step
abbrev pub pace : ℕ
pace = most_forms + 1

-- where a run has ended by itself no cell is counted
abbrev pub LeavesNone : End → Heap → Type 0
LeavesNone ended heap = busy heap ≡ 0
LeavesNone heap_full heap = Unit {0}
LeavesNone stack_full heap = Unit {0}

abbrev pub EndsClean : CountedControl → Heap → Type 0
EndsClean (stopped by) heap = LeavesNone by heap
EndsClean _ heap = Unit {0}

abbrev pub inserted_after : (CountedState → ℕ) → CoreSetting → List ℕ → ℕ → CountedConfiguration
inserted_after weights setting input n = counted_after weights (inserted_setting setting) input n

-- the notes of so many steps on an input, of the core machine and of the counted machine
abbrev pub core_notes : CoreSetting → List ℕ → ℕ → List Note
core_notes setting input n = trace (core_machine (λ s. 0) setting) n (core_first_state setting input)

abbrev pub counted_notes : CoreSetting → List ℕ → ℕ → List Note
counted_notes setting input n =
    trace (counted_machine (λ s. 0) (inserted_setting setting)) n (counted_first_state (inserted_setting setting) input)

-- On an input both machines tell the same notes and end alike: what the core machine does in n steps the counted machine does in
-- some that cost no more, and what the counted machine does in m steps the core machine does within `m * pace + pace + 1`. The
-- counted machine is never stuck, its heap is sound in each state, and where it has ended by itself no cell is left. The costs are
-- those of the tables, with any room for each core step and each form but a dup and a drop: so the dups and drops are paid, however
-- many drops there are and cells they free.
pub record KeepsMeaning (setting : CoreSetting) (input : List ℕ) : Type 0 where
  pub agrees : (room : ℕ)
      → Agree (core_machine (roomy_core_cost room) setting) (counted_machine (roomy_cost room) (inserted_setting setting))
      0 (λ m. m * pace + pace + 1) (core_first_state setting input) (counted_first_state (inserted_setting setting) input)
  pub never_stuck : (weights : CountedState → ℕ) (n : ℕ) → NotStuck (inserted_after weights setting input n).control
  pub sound : (weights : CountedState → ℕ) (n : ℕ)
      → IsKept setting.positions (inserted_setting setting).program.functions (inserted_after weights setting input n)
  pub clean : (weights : CountedState → ℕ) (n : ℕ)
      → EndsClean (inserted_after weights setting input n).control (inserted_after weights setting input n).heap

-- The k-th note of either machine is the k-th of the other. So where one makes a cell, and has found so many cells counted, the
-- other has found as many places live.
pub record FindsAsMany (setting : CoreSetting) (input : List ℕ) : Type 0 where
  pub counted_are_live : (n k : ℕ) (note : Note) → slice_get (counted_notes setting input n) k ≡ Some note
      → (m : ℕ) × (slice_get (core_notes setting input m) k ≡ Some note)
  pub live_are_counted : (n k : ℕ) (note : Note) → slice_get (core_notes setting input n) k ≡ Some note
      → (m : ℕ) × (slice_get (counted_notes setting input m) k ≡ Some note)
