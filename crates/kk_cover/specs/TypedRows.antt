-- The rows of a match in a typed function, and the type that they are of.
use Rattle.std.specs.Prelude.{List}
use Rattle.std.specs.List.{Contains}
use Rattle.kk_syntax.specs.Programs.{ProgramTree}
use Rattle.kk_syntax.specs.Types.{TypeTree}
use Rattle.kk_syntax.specs.Typing.{Choice, holding}
use Rattle.kk_syntax.specs.Covered.{Each}
use Rattle.kk_syntax.specs.Outlines.{Outline}
use Rattle.kk_syntax.specs.OfType.{IsPatternOf, values_of}

-- rows are of one type, which is chosen among these
pub record AreOfChosenType (program : ProgramTree) (choices : List Choice) (rows : List Outline) : Type 0 where
  pub at : TypeTree
  pub chosen : Contains choices (holding at)
  pub typed : Each (IsPatternOf (values_of program.constructors) at) rows
