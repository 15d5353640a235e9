-- What it is that the counted form of a program keeps the program's meaning.
use Rattle.std.specs.Prelude.{◌≡◌, ℕ, suc, ◌+◌, ◌*◌, ◌≤◌, List, Some, slice_get}
use Rattle.kk_base.specs.Agreements.{Agree}
use Rattle.kk_base.specs.Machines.{trace}
use Rattle.kk_syntax.specs.declared.ground.Ground.{Ground}
use Rattle.kk_syntax.specs.PositionsOf.{PositionTable}
use Rattle.kk_syntax.specs.Programs.{ProgramTree}
use Rattle.kk_syntax.specs.Shapes.{greatest_nodes}
use Rattle.kk_source.specs.Notes.{Note}
use Rattle.kk_source.specs.State.{Setting}
use Rattle.kk_source.specs.SourceAfter.{store_machine, first_state}
use Rattle.kk_norm.specs.Meaning.{heavy_store_machine}
use Rattle.kk_counted.specs.declared.counted.Counted.{Counted}
use Rattle.kk_core.specs.Costs.{most_step_cost, most_room}
use Rattle.kk_counted.specs.CountedCosts.{roomy_cost}
use Rattle.kk_counted.specs.CountedStates.{CountedSetting, CountedState, counted_first_state}
use Rattle.kk_counted.specs.CountedMachine.{counted_machine, NotStuck}
use Rattle.kk_counted.specs.Keeping.{FitsAlways, IsKept, counted_after}
use Rattle.kk_counted.specs.Lengths.{most_length}
use Rattle.kk_counted.specs.Programs.{program_of}
use Rattle.kk_counted.specs.Spending.{IsSpent}
use Rattle.kk_insert.specs.Meaning.{pace, EndsClean}

-- a counted program with the string literals of its instances, on so many cells and with such a depth
abbrev pub counted_setting : Counted → Ground → ℕ → ℕ → CountedSetting
counted_setting made given cells depth =
    record { program = program_of made.functions.items given.texts.items; cells = cells; depth = depth }

-- the notes of so many steps on an input, of the store machine and of the counted machine
abbrev pub store_notes : Setting → List ℕ → ℕ → List Note
store_notes setting input n = trace (store_machine setting) n (first_state setting input)

abbrev pub counted_notes : CountedSetting → List ℕ → ℕ → List Note
counted_notes counted input n = trace (counted_machine (λ s. 0) counted) n (counted_first_state counted input)

-- Within how many steps the code that is not fused does what fused code does in m steps, by the longest body: at each step it may
-- do all dups and drops of a body that fusion leaves out.
abbrev pub unfused_steps : ℕ → ℕ → ℕ
unfused_steps most m = m * suc most + most

-- Within how many steps the store machine does what the code that is not fused does in m steps, by the greatest body of the
-- instances.
abbrev pub inserted_steps : ProgramTree → ℕ → ℕ
inserted_steps instances m = (m * pace + pace + 1) * (greatest_nodes instances + 1) + greatest_nodes instances + 1

-- Within how many steps the store machine does what the counted machine does in m steps, by the greatest body of the instances. m is
-- first turned into steps of the code before fusion: no body has more forms than a program within the limits has instructions.
abbrev pub store_steps : ProgramTree → ℕ → ℕ
store_steps instances m = inserted_steps instances (unfused_steps most_length m)

-- On an input both machines tell the same notes and end alike: what the store machine does in n steps the counted machine does in
-- some, and what the counted machine does in m steps the store machine does within `up m`. The counted steps that do n steps of the
-- store machine cost at most n times 256 times the square of the nodes of the greatest body, or of a greater number, with room for
-- more at each form but dups and drops. The k-th note
-- of one is the k-th of the other: so where a cell is made, as many cells are counted as places are live. The counted machine is
-- never stuck, its heap is sound in each state, operators and prints take values without cells, and where it has ended by itself no
-- cell is left. So what is known of code that spends what it owns is known of this code.
pub record KeepsMeaning (setting : Setting) (positions : PositionTable) (counted : CountedSetting) (greatest : ℕ) (up : ℕ → ℕ)
    (input : List ℕ) : Type 0 where
  pub agrees : (nodes room : ℕ) → greatest ≤ nodes → room ≤ most_room nodes
      → Agree (heavy_store_machine (most_step_cost nodes) setting) (counted_machine (roomy_cost room) counted) 0 up
      (first_state setting input) (counted_first_state counted input)
  pub counted_are_live : (n k : ℕ) (note : Note) → slice_get (counted_notes counted input n) k ≡ Some note
      → (m : ℕ) × (slice_get (store_notes setting input m) k ≡ Some note)
  pub live_are_counted : (n k : ℕ) (note : Note) → slice_get (store_notes setting input n) k ≡ Some note
      → (m : ℕ) × (slice_get (counted_notes counted input m) k ≡ Some note)
  pub spent : IsSpent positions counted.program
  pub fits : (weights : CountedState → ℕ) → FitsAlways weights counted input
  pub never_stuck : (weights : CountedState → ℕ) (n : ℕ) → NotStuck (counted_after weights counted input n).control
  pub sound : (weights : CountedState → ℕ) (n : ℕ)
      → IsKept positions counted.program.functions (counted_after weights counted input n)
  pub clean : (weights : CountedState → ℕ) (n : ℕ)
      → EndsClean (counted_after weights counted input n).control (counted_after weights counted input n).heap
