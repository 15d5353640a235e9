-- Tables of types: each type once, by numbers that stay while the table grows.
use Rattle.std.specs.Prelude.{◌≡◌, ◌≢◌, ℕ, ◌<◌, Bool, true, false, List, [], ◌∷◌, ◌++◌, length, map, All, AllPairs, slice_index_or}
use Rattle.kk_syntax.specs.declared.ground.GroundType.{GroundType}
use Rattle.kk_syntax.specs.declared.ground.GroundType.TheVariants.{Int32, Unit as Nothing, Named}
use Rattle.kk_syntax.specs.GroundPrograms.{ground_types}
use Rattle.kk_syntax.specs.Types.{TypeTree, type_at}

-- the nodes that a node names
abbrev pub arguments_of : GroundType → List ℕ
arguments_of Int32 = []
arguments_of Nothing = []
arguments_of (Named by arguments) = arguments.items

-- each node names nodes before it
abbrev pub AreInOrder : List GroundType → Type 0
AreInOrder nodes = (i : ℕ) (d : GroundType) → i < length nodes → All (λ n. n < i) (arguments_of (slice_index_or nodes i d))

-- the first node is `()`
abbrev pub begin_with_unit : List GroundType → Bool
begin_with_unit [] = false
begin_with_unit (Int32 ∷ nodes) = false
begin_with_unit (Nothing ∷ nodes) = true
begin_with_unit (Named by arguments ∷ nodes) = false

-- no type is there twice
abbrev pub AreOnce : List GroundType → Type 0
AreOnce nodes = AllPairs (λ one other. one ≢ other) (ground_types nodes)

-- more things stand behind those that were there
abbrev pub Grows : {X : Type 0} → List X → List X → Type 0
Grows {X} before after = (more : List X) × (after ≡ before ++ more)

-- the number at a place; that of `()` where there is none
abbrev pub number_in : List ℕ → ℕ → ℕ
number_in numbers k = slice_index_or numbers k 0

-- numbers of types in a table
pub record AreNumbers (types : List TypeTree) (numbers : List ℕ) (are : List TypeTree) : Type 0 where
  pub within : All (λ n. n < length types) numbers
  pub types_are : map (type_at types) numbers ≡ are
