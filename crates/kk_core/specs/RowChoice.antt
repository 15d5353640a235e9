-- When decisions choose the first row that matches.
use Rattle.std.specs.Prelude.{◌≡◌, ℕ, ◌+◌, Bool, List, [], ◌∷◌, map, Option, None, Some, is_some, if◌then◌else◌, slice_get}
use Rattle.kk_syntax.specs.Covered.{Each}
use Rattle.kk_syntax.specs.OfType.{IsPatternOf, values_of}
use Rattle.kk_syntax.specs.Outlines.{outline_of}
use Rattle.kk_syntax.specs.Patterns.{Pattern}
use Rattle.kk_syntax.specs.Programs.{ConstructorTree}
use Rattle.kk_syntax.specs.Types.{TypeTree}
use Rattle.kk_source.specs.State.{Value, Store}
use Rattle.kk_source.specs.Matching.{matched}
use Rattle.kk_source.specs.ValueTypes.{IsOf}
use Rattle.kk_core.specs.Decisions.{NodeTree, chosen}

-- whether a value matches a pattern
abbrev pub matches : Store → Pattern → Value → Bool
matches store pattern v = is_some (matched store pattern v [])

-- the number of the first row whose pattern a value matches, if there is one; the rows are those from number k on
abbrev pub first_row : Store → ℕ → List Pattern → Value → Option ℕ
first_row store k [] v = None
first_row store k (pattern ∷ patterns) v = if matches store pattern v then Some k else first_row store (k + 1) patterns v

-- Decisions decide a match, by the patterns of its rows: for each value of a type that all the patterns are of, they choose the
-- first row that the value matches, if it matches one.
abbrev pub Decides : List ConstructorTree → List Pattern → List NodeTree → Type 0
Decides constructors patterns decisions =
    (t : TypeTree) (store : Store) (v : Value) (row : ℕ)
    → Each (IsPatternOf (values_of constructors) t) (map outline_of patterns) → IsOf constructors store t v
    → first_row store 0 patterns v ≡ Some row → chosen (slice_get store) v decisions ≡ Some row
