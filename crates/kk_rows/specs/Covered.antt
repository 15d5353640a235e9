-- What a match misses where it is not covered, and what an answer for a match says.
use Rattle.std.specs.Prelude.{List, map, Option, MatchOption}
use Rattle.kk_syntax.specs.declared.program.Pat.{Pat}
use Rattle.kk_syntax.specs.declared.program.Program.{Program}
use Rattle.kk_syntax.specs.declared.program.Row.{Row}
use Rattle.kk_syntax.specs.Covered.{Each, IsMissed}
use Rattle.kk_syntax.specs.Matches.{IsMatchCovered}
use Rattle.kk_syntax.specs.Programs.{ProgramTree, program_tree}
use Rattle.kk_syntax.specs.Types.{TypeTree}
use Rattle.kk_syntax.specs.Outlines.{Outline, HasSmallNumbers, pattern_outline}
use Rattle.kk_syntax.specs.OfType.{IsPatternOf, values_of}

-- a match misses an outline, at each type at which its rows are typed
abbrev pub IsMatchMissed : ProgramTree → List Outline → Outline → Type 0
IsMatchMissed program rows e = (t : TypeTree) → Each (IsPatternOf (values_of program.constructors) t) rows → IsMissed (values_of program.constructors) t rows e

-- an example for a match: the match misses it, and its numbers fit into 32 bits
pub record IsExample (program : ProgramTree) (rows : List Outline) (e : Outline) : Type 0 where
  pub missed : IsMatchMissed program rows e
  pub small : HasSmallNumbers e

-- the outlines of a match's rows
abbrev pub row_outlines : List Row → List Outline
row_outlines rows = map (λ row. pattern_outline row.pattern) rows

-- an answer for a match: it is covered, or this is an example
abbrev pub Answers : Program → List Row → Option Pat → Type 0
Answers program rows found =
    MatchOption found (IsMatchCovered (program_tree program) (row_outlines rows))
    (λ example. IsExample (program_tree program) (row_outlines rows) (pattern_outline example))
