-- Types without variables in a table: each is a node, whose arguments are nodes before it.
use Rattle.std.specs.Prelude.{◌≡◌, ℕ, ◌<◌, Bool, true, false, List, [], ◌∷◌, ◌++◌, map, length, All, AllPairs}
use Rattle.kk_syntax.specs.declared.ground.GroundConstructor.{GroundConstructor}
use Rattle.kk_syntax.specs.declared.ground.GroundType.{GroundType}
use Rattle.kk_syntax.specs.declared.ground.GroundType.TheVariants.{Int32, Unit as Nothing, Named}
use Rattle.kk_syntax.specs.OfType.{same_type}
use Rattle.kk_syntax.specs.Types.{TypeTree, TypeTrees, int32, unit_type, type_variable, named, no_type, types_of, type_at}

-- the type of a node, by the types of those before it
abbrev pub ground_type : List TypeTree → GroundType → TypeTree
ground_type earlier Int32 = int32
ground_type earlier Nothing = unit_type
ground_type earlier (Named by arguments) = named by (types_of (map (type_at earlier) arguments.items))

-- the types of nodes behind earlier ones, and of all nodes
abbrev pub ground_types_behind : List TypeTree → List GroundType → List TypeTree
ground_types_behind earlier [] = earlier
ground_types_behind earlier (node ∷ nodes) = ground_types_behind (earlier ++ (ground_type earlier node ∷ [])) nodes

abbrev pub ground_types : List GroundType → List TypeTree
ground_types nodes = ground_types_behind [] nodes

-- the number of a declared type, and its arguments
abbrev pub number_of_type : TypeTree → ℕ
number_of_type int32 = 0
number_of_type unit_type = 0
number_of_type (type_variable of) = 0
number_of_type (named by arguments) = by

abbrev pub arguments_of_type : TypeTree → TypeTrees
arguments_of_type int32 = no_type
arguments_of_type unit_type = no_type
arguments_of_type (type_variable of) = no_type
arguments_of_type (named by arguments) = arguments

-- whether a type is a declared one
abbrev pub is_declared : TypeTree → Bool
is_declared int32 = false
is_declared unit_type = false
is_declared (type_variable of) = false
is_declared (named by arguments) = true

-- No type stands twice in a table of types. A ground constructor makes values of a declared type that is there, by its number.
pub record AreNumbered (nodes : List GroundType) (constructors : List GroundConstructor) : Type 0 where
  pub once : AllPairs (λ one other. same_type one other ≡ false) (ground_types nodes)
  pub there : All (λ (made : GroundConstructor). made.of_type < length (ground_types nodes)) constructors
  pub declared : All (λ (made : GroundConstructor). is_declared (type_at (ground_types nodes) made.of_type) ≡ true) constructors
