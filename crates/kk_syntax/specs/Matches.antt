-- The matches of a program in the order of the text, and when they are covered.
use Rattle.std.specs.Prelude.{List, [], ◌∷◌}
use Rattle.kk_syntax.specs.Covered.{Each, IsCovered, asked_by}
use Rattle.kk_syntax.specs.OfType.{IsPatternOf, values_of}
use Rattle.kk_syntax.specs.Outlines.{Outline}
use Rattle.kk_syntax.specs.Programs.{FunctionTree, ProgramTree}
use Rattle.kk_syntax.specs.Shapes.{Gathers, gathered}
use Rattle.kk_syntax.specs.Trees.{Tree}
use Rattle.kk_syntax.specs.Types.{TypeTree}

-- The matches of an expression, each as its rows, in the order of the text: a match before those in its scrutinee, and
-- these before those in its rows.
abbrev pub of_matches : Gathers (List Outline)
of_matches = record { at_form = λ form. []; at_rows = λ rows. asked_by rows ∷ []; at_pattern = λ pattern. [] }

abbrev pub matches : Tree → List (List Outline)
matches e = gathered of_matches e

-- a match is covered, at each type at which its rows are typed
abbrev pub IsMatchCovered : ProgramTree → List Outline → Type 0
IsMatchCovered program rows =
    (t : TypeTree) → Each (IsPatternOf (values_of program.constructors) t) rows → IsCovered (values_of program.constructors) t rows

-- each match of a function is covered
abbrev pub IsFunctionCovered : ProgramTree → FunctionTree → Type 0
IsFunctionCovered program function = Each (IsMatchCovered program) (matches function.body)
