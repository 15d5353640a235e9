-- That each match has a row. The rows of a match that are covered are so.
use Rattle.std.specs.Prelude.{◌≡◌, ℕ, List, [], ◌∷◌, Some, slice_get}
use Rattle.kk_syntax.specs.Covered.{Each}
use Rattle.kk_syntax.specs.Programs.{FunctionTree}
use Rattle.kk_syntax.specs.Shapes.{Gathers, gathered, gathered_all, gathered_rows}
use Rattle.kk_syntax.specs.Trees.{Tree, Trees, Rows, no_row, row}

abbrev pub IsSomeRow : Rows → Type 0
IsSomeRow no_row = ⊥
IsSomeRow (row first rest) = Unit {0}

-- the matches of an expression, each as its rows
abbrev pub gathers_rows : Gathers Rows
gathers_rows = record { at_form = λ form. []; at_rows = λ rows. rows ∷ []; at_pattern = λ pattern. [] }

-- each match in an expression, in several ones, and in the bodies of rows has a row
abbrev pub MatchesHaveRows : Tree → Type 0
MatchesHaveRows e = Each IsSomeRow (gathered gathers_rows e)

abbrev pub AllMatchesHaveRows : Trees → Type 0
AllMatchesHaveRows es = Each IsSomeRow (gathered_all gathers_rows es)

abbrev pub BodiesHaveRows : Rows → Type 0
BodiesHaveRows rows = Each IsSomeRow (gathered_rows gathers_rows rows)

-- each match in functions has a row
abbrev pub FunctionsHaveRows : List FunctionTree → Type 0
FunctionsHaveRows functions =
    (f : ℕ) (function : FunctionTree) → slice_get functions f ≡ Some function → MatchesHaveRows function.body
