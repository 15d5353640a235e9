-- The constructors of a type, by the numbers of its types.
use Rattle.std.specs.Prelude.{ℕ, List, map, Contains, slice_index_or}
use Rattle.kk_syntax.specs.Constructors.{members}
use Rattle.kk_syntax.specs.Programs.{ConstructorTree, no_constructor}
use Rattle.kk_mono.specs.KeyTrees.{KeyTree}

-- the number of a constructor's type
abbrev pub type_of : List ConstructorTree → ℕ → ℕ
type_of constructors c = (slice_index_or constructors c no_constructor).of_type

-- the ground constructors of a declared type at types
abbrev pub keys_of : List ConstructorTree → ℕ → List ℕ → List KeyTree
keys_of constructors by at = map (λ n. record { number = n; at = at }) (members constructors by)

-- those of the type of one of them
abbrev pub siblings : List ConstructorTree → KeyTree → List KeyTree
siblings constructors key = keys_of constructors (type_of constructors key.number) key.at

-- with each ground constructor all others of its type are there
abbrev pub HaveSiblings : List ConstructorTree → List KeyTree → Type 0
HaveSiblings constructors keys = (key other : KeyTree) → Contains keys key → Contains (siblings constructors key) other
    → Contains keys other
