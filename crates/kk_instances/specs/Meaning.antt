-- What it is that the instances of a program mean what the program means.
use Rattle.std.specs.Prelude.{◌≡◌, ℕ, List, [], map, slice_index_or}
use Rattle.kk_base.specs.Machines.{trace, ending_after}
use Rattle.kk_syntax.specs.Programs.{ProgramTree}
use Rattle.kk_syntax.specs.PositionsOf.{PositionTable}
use Rattle.kk_syntax.specs.GroundTyping.{IsGroundTyped}
use Rattle.kk_syntax.specs.Typing.{Choice}
pub use Rattle.kk_source.specs.Settings.{setting_of}
use Rattle.kk_source.specs.SourceAfter.{store_machine, first_state}
use Rattle.kk_mono.specs.Instances.{InstanceTree, IsInstanceProgram}

-- the positions of instances, in their order: those of the functions that they are
abbrev pub positions_in : List InstanceTree → PositionTable → PositionTable
positions_in instances table = map (λ instance. slice_index_or table instance.function []) instances

-- The instances of a program are typed, and their matches are covered. Where positions of the program are lent, `positions`
-- are those of the instances: each instance has those of the function that it is. Then the instances do what the program
-- does, on every input, with every number of cells and every depth: after each number of steps they have told the same, also
-- of live places and of call frames, and have ended alike.
pub record MeansTheSame (program made : ProgramTree) : Type 0 where
  pub typed : IsGroundTyped made
  pub typings : List (List Choice)
  pub instances : List InstanceTree
  pub are : IsInstanceProgram program typings instances made
  pub positions : PositionTable → PositionTable
  pub positions_are : (table : PositionTable) → positions table ≡ positions_in instances table
  pub traces : (table : PositionTable) (cells depth : ℕ) (input : List ℕ) (n : ℕ) → trace (store_machine (setting_of made (positions table) cells depth)) n (first_state (setting_of made (positions table) cells depth) input) ≡ trace (store_machine (setting_of program table cells depth)) n (first_state (setting_of program table cells depth) input)
  pub endings : (table : PositionTable) (cells depth : ℕ) (input : List ℕ) (n : ℕ) → ending_after (store_machine (setting_of made (positions table) cells depth)) n (first_state (setting_of made (positions table) cells depth) input) ≡ ending_after (store_machine (setting_of program table cells depth)) n (first_state (setting_of program table cells depth) input)
