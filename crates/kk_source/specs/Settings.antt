-- A program as it is run.
use Rattle.std.specs.Prelude.{◌≡◌, ℕ}
use Rattle.kk_syntax.specs.OwnedPositions.{IsLeast}
use Rattle.kk_syntax.specs.PositionsOf.{PositionTable}
use Rattle.kk_syntax.specs.Programs.{ProgramTree}
use Rattle.kk_source.specs.State.{Setting}

-- a program with these positions lent, on so many cells and with such a depth
abbrev pub setting_of : ProgramTree → PositionTable → ℕ → ℕ → Setting
setting_of program positions cells depth = record { program = program; positions = positions; cells = cells; depth = depth }

-- A program as it is run, on so many cells and with such a depth: its owned positions are the least set that is closed
-- under the rules of ownership, and all others are lent.
pub record IsRun (program : ProgramTree) (cells depth : ℕ) (setting : Setting) : Type 0 where
  pub positions : PositionTable
  pub least : IsLeast program positions
  pub is : setting ≡ setting_of program positions cells depth
