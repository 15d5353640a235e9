-- What graphs in memory mean, and the nodes that are added to them.
use Rattle.std.specs.Prelude.{◌<◌, ℕ, List, map, All}
use Rattle.kk_syntax.specs.declared.typed.TypeNode.{TypeNode}
use Rattle.kk_syntax.specs.declared.typed.TypeNode.TheVariants.{Int32, Unit as Nothing, Variable, Named}
use Rattle.kk_syntax.specs.Types.{TypeTree, int32, unit_type, type_variable, named, types_of}
use Rattle.kk_unify.specs.declared.graph.Graph.{Graph}
use Rattle.kk_unify.specs.NodesOf.{node_trees}
use Rattle.kk_unify.specs.Graphs.{NodeTree, Assignment}

abbrev pub graph_of : Graph → List NodeTree
graph_of graph = node_trees graph.nodes.items

-- the variables that stand for themselves: those below this number
abbrev pub variables_of : Graph → ℕ
variables_of graph = graph.variables

-- the type that a new node says, by the types of the nodes that it names
abbrev pub type_by : Assignment → TypeNode → TypeTree
type_by r Int32 = int32
type_by r Nothing = unit_type
type_by r (Variable of) = type_variable of
type_by r (Named by arguments) = named by (types_of (map r arguments.items))

-- a new node names variables and nodes that there are
abbrev pub IsAddable : ℕ → ℕ → TypeNode → Type 0
IsAddable variables size Int32 = Unit {0}
IsAddable variables size Nothing = Unit {0}
IsAddable variables size (Variable of) = of < variables
IsAddable variables size (Named by arguments) = All (λ argument. argument < size) arguments.items
