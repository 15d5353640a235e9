-- What typed programs in memory mean: the types of their nodes, and their typings.
use Rattle.std.specs.Prelude.{List, [], ◌∷◌, ◌++◌, map}
use Rattle.kk_syntax.specs.declared.typed.TypeNode.{TypeNode}
use Rattle.kk_syntax.specs.declared.typed.TypeNode.TheVariants.{Int32, Unit as Nothing, Variable, Named}
use Rattle.kk_syntax.specs.declared.typed.Taken.{Taken}
use Rattle.kk_syntax.specs.declared.typed.Taken.TheVariants.{Construct, Call, Value}
use Rattle.kk_syntax.specs.declared.typed.BodyTypes.{BodyTypes}
use Rattle.kk_syntax.specs.declared.typed.Typed.{Typed}
use Rattle.kk_syntax.specs.Types.{TypeTree, int32, unit_type, type_variable, named, types_of, type_at}
use Rattle.kk_syntax.specs.Typing.{Choice, constructing, calling, holding}

-- the type of a node, by the types of those before it
abbrev pub type_of_node : List TypeTree → TypeNode → TypeTree
type_of_node earlier Int32 = int32
type_of_node earlier Nothing = unit_type
type_of_node earlier (Variable of) = type_variable of
type_of_node earlier (Named by arguments) = named by (types_of (map (type_at earlier) arguments.items))

-- the types of nodes behind earlier ones, and of all nodes
abbrev pub types_behind : List TypeTree → List TypeNode → List TypeTree
types_behind earlier [] = earlier
types_behind earlier (node ∷ nodes) = types_behind (earlier ++ (type_of_node earlier node ∷ [])) nodes

abbrev pub node_types : List TypeNode → List TypeTree
node_types nodes = types_behind [] nodes

-- what is taken at a place of a body, by the types of the nodes
abbrev pub choice_of : List TypeTree → Taken → Choice
choice_of types (Construct by at) = constructing by (map (type_at types) at.items)
choice_of types (Call function at) = calling function (map (type_at types) at.items)
choice_of types (Value of) = holding (type_at types of)

-- the typing of a body, and those of all functions of a program
abbrev pub typing_of : BodyTypes → List Choice
typing_of body = map (choice_of (node_types body.nodes.items)) body.taken.items

abbrev pub typings_of : Typed → List (List Choice)
typings_of typed = map typing_of typed.bodies.items
