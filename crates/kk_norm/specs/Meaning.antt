-- The machines that are compared: the store machine of a program, and the core machine of its core form.
use Rattle.std.specs.Prelude.{ℕ, ◌+◌, ◌*◌, ◌≤◌, List, ◌∷◌, Option, None, Some}
use Rattle.kk_base.specs.Agreements.{Agree}
use Rattle.kk_base.specs.Machines.{Machine, weighing, state}
use Rattle.kk_syntax.specs.Shapes.{greatest_nodes}
use Rattle.kk_syntax.specs.Programs.{ProgramTree}
use Rattle.kk_syntax.specs.PositionsOf.{PositionTable}
use Rattle.kk_syntax.specs.Trees.{Rows, no_row, row, pattern_of_row}
use Rattle.kk_source.specs.Matching.{matched}
use Rattle.kk_source.specs.Notes.{Note}
use Rattle.kk_source.specs.State.{Setting, End, Value, Store, Environment, Frame, rows, Control, value}
pub use Rattle.kk_source.specs.Settings.{setting_of}
use Rattle.kk_source.specs.SourceAfter.{step, ending_of, first_state, State}
use Rattle.kk_core.specs.Codes.{ProgramCode}
use Rattle.kk_core.specs.CoreStates.{CoreSetting, CoreState, core_first_state}
use Rattle.kk_core.specs.CoreMachine.{core_machine}
use Rattle.kk_core.specs.Costs.{most_step_cost, most_room, roomy_core_cost}
use Rattle.kk_norm.specs.OpenedCells.{openings}

-- the store machine, where the steps weigh so much
abbrev pub weighed_store_machine : (State → ℕ) → Setting → Machine State Note End
weighed_store_machine weight setting = weighing weight ending_of (step setting)

-- the store machine, each step of which weighs so much
abbrev pub heavy_store_machine : ℕ → Setting → Machine State Note End
heavy_store_machine weight setting = weighed_store_machine (λ s. weight) setting

-- ---- the cells that a step opens

-- the cells that the pattern of the first row that matches opens
abbrev pub openings_if : Option Environment → ℕ → ℕ → ℕ
openings_if None own later = later
openings_if (Some bound) own later = own

abbrev pub openings_of_rows : Store → Rows → Value → Environment → ℕ
openings_of_rows store no_row v environment = 0
openings_of_rows store (row first rest) v environment =
    openings_if (matched store (pattern_of_row first) v environment) (openings (pattern_of_row first)) (openings_of_rows store rest v environment)

abbrev pub openings_by_frames : Store → Value → List Frame → ℕ
openings_by_frames store v (rows of environment ∷ older) = openings_of_rows store of v environment
openings_by_frames store v _ = 0

-- the cells that the step from a state opens: those of the row that a match chooses, and else none
abbrev pub openings_at : Control → List Frame → Store → ℕ
openings_at (value v) frames store = openings_by_frames store v frames
openings_at _ frames store = 0

-- the most steps of the core that a step of the source takes: two, and one for each cell that it opens
abbrev pub core_steps : State → ℕ
core_steps s = 2 + openings_at s.machine.control s.machine.frames s.machine.store

-- a core form, with these positions lent, on so many cells and with such a depth
abbrev pub core_setting_of : ProgramCode → PositionTable → ℕ → ℕ → CoreSetting
core_setting_of code positions cells depth = record { code = code; positions = positions; cells = cells; depth = depth }

-- the state of the core machine after so many steps on an input
abbrev pub core_after : CoreSetting → List ℕ → ℕ → CoreState
core_after setting input n = state (core_machine (λ s. 1) setting) n (core_first_state setting input)

-- A core form keeps the meaning of a program: on each input, for all positions, cells and depth, its machine tells what the
-- store machine tells, which are the events, the live places at each construction with fields and the call frames at each
-- call that is no tail call; and it ends if and only if the other ends, and alike. Where no step of the run weighs more
-- than `cost`, a step of the source pays by so many times as much for those that do it: two, and one for each cell that it
-- opens. The other way round, m steps of the core come by at most (m + 1) times the nodes of the greatest body and one.
pub record KeepsMeaningByCells (program : ProgramTree) (code : ProgramCode) : Type 0 where
  pub agrees : (positions : PositionTable) (cells depth : ℕ) (input : List ℕ) (cost : ℕ) (weight : CoreState → ℕ)
      → ((n : ℕ) → weight (core_after (core_setting_of code positions cells depth) input n) ≤ cost)
      → Agree (weighed_store_machine (λ s. core_steps s * cost) (setting_of program positions cells depth)) (core_machine weight (core_setting_of code positions cells depth)) 0 (λ m. m * (greatest_nodes program + 1) + greatest_nodes program + 1)
      (first_state (setting_of program positions cells depth) input) (core_first_state (core_setting_of code positions cells depth) input)

-- The core steps that do a step of the source cost at most `most_step_cost` of the nodes of the greatest body, or of a
-- greater number, with room for more in each of them: so the machines agree where the one weighs as much, and the steps of the
-- other no more than they cost with that room.
pub record CostsLittle (program : ProgramTree) (code : ProgramCode) : Type 0 where
  pub agrees : (positions : PositionTable) (cells depth : ℕ) (input : List ℕ) (nodes room : ℕ) (weight : CoreState → ℕ)
      → greatest_nodes program ≤ nodes → room ≤ most_room nodes
      → ((n : ℕ) → weight (core_after (core_setting_of code positions cells depth) input n)
      ≤ roomy_core_cost room (core_after (core_setting_of code positions cells depth) input n))
      → Agree (heavy_store_machine (most_step_cost nodes) (setting_of program positions cells depth)) (core_machine weight (core_setting_of code positions cells depth)) 0 (λ m. m * (greatest_nodes program + 1) + greatest_nodes program + 1)
      (first_state (setting_of program positions cells depth) input) (core_first_state (core_setting_of code positions cells depth) input)
