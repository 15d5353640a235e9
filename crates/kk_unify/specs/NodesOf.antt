-- What nodes in memory mean.
use Rattle.std.specs.Prelude.{ℕ, List, map}
use Rattle.std.specs.Coded.{Unit-prop, le_prop}
use Rattle.std.proofs.Props.{props}
use Rattle.kk_syntax.specs.declared.typed.TypeNode.{TypeNode}
use Rattle.kk_syntax.specs.declared.typed.TypeNode.TheVariants as Added
use Rattle.kk_unify.specs.declared.node.Node.{Node}
use Rattle.kk_unify.specs.declared.node.Node.TheVariants.{Any, Same, Int32, Unit as Nothing, Variable, Named}
use Rattle.kk_unify.specs.Graphs.{NodeTree, any_node, same_node, int32_node, unit_node, variable_node, named_node, IsNodeFormed}

abbrev pub node_tree : Node → NodeTree
node_tree Any = any_node
node_tree (Same to) = same_node to
node_tree Int32 = int32_node
node_tree Nothing = unit_node
node_tree (Variable of) = variable_node of
node_tree (Named by arguments) = named_node by arguments.items

abbrev pub node_trees : List Node → List NodeTree
node_trees nodes = map node_tree nodes

-- a node that is added
abbrev pub added_node : TypeNode → NodeTree
added_node Added.Int32 = int32_node
added_node Added.Unit = unit_node
added_node (Added.Variable of) = variable_node of
added_node (Added.Named by arguments) = named_node by arguments.items

-- what a node names is there in one way
pub IsNodeFormed-prop : (variables size i : ℕ) (node : NodeTree) → IsProp (IsNodeFormed variables size i node)
IsNodeFormed-prop variables size i any_node = Unit-prop
IsNodeFormed-prop variables size i (same_node to) = le_prop
IsNodeFormed-prop variables size i int32_node = Unit-prop
IsNodeFormed-prop variables size i unit_node = Unit-prop
IsNodeFormed-prop variables size i (variable_node of) = le_prop
IsNodeFormed-prop variables size i (named_node by arguments) = hlevel props
