-- Nodes in memory as nodes of a list.
use Rattle.std.proofs.Common.{◌≡◌, ◌<◌, ℕ, List, length, get_or, set, ◌∙◌, ap}
use Rattle.std.proofs.lemmas.List.{get_or-map, length-map, map-set}
use Rattle.kk_unify.specs.declared.node.Node.{Node}
use Rattle.kk_unify.specs.Graphs.{any_node}
use Rattle.kk_unify.specs.NodesOf.{node_tree, node_trees}
use Rattle.kk_unify.specs.Unification.{node_at}

pub as_long : (nodes : List Node) → length (node_trees nodes) ≡ length nodes
as_long nodes = length-map nodes node_tree

pub read : (nodes : List Node) (i : ℕ) (node d : Node) → i < length nodes → get_or nodes i d ≡ node → node_at (node_trees nodes) i ≡ node_tree node
read nodes i node d lt is = get_or-map node_tree nodes i d any_node lt ∙ ap node_tree is

pub written : (nodes : List Node) (i : ℕ) (node : Node) → node_trees (set nodes i node) ≡ set (node_trees nodes) i (node_tree node)
written nodes i node = map-set node_tree nodes i node
