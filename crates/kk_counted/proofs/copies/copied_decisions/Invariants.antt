use Rattle.std.proofs.Common.{◌≡◌, ◌++◌, map, drop}
use Rattle.kk_core.specs.Decisions.{node_tree}
use Rattle.kk_counted.specs.Int32.{AreNodesInt32}
use Rattle.kk_counted.proofs.copies.copied_decisions.Given as goal

abbrev pub invariant-loop-node : goal.invariant-loop-node
invariant-loop-node l =
    (map node_tree l.nodes.items ++ map node_tree (drop l.node-index l.decisions.nodes.items)
    ≡ map node_tree l.decisions.nodes.items)
    × AreNodesInt32 (map node_tree l.nodes.items)
