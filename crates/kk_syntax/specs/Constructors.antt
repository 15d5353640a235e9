-- The constructors of a declared type.
use Rattle.std.specs.Prelude.{ℕ, ◌+◌, ◌==◌, List, [], ◌∷◌, if◌then◌else◌}
use Rattle.kk_syntax.specs.Programs.{ConstructorTree}

-- the numbers of the constructors of a declared type, where the first one has this number
abbrev pub members_from : ℕ → List ConstructorTree → ℕ → List ℕ
members_from first [] by = []
members_from first (c ∷ cs) by = if c.of_type == by then first ∷ members_from (first + 1) cs by else members_from (first + 1) cs by

abbrev pub members : List ConstructorTree → ℕ → List ℕ
members = members_from 0
