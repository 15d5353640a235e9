use Rattle.std.proofs.Common.{◌≡◌, ◌++◌, map, vec_len}
use Rattle.kk_core.specs.Decisions.{node_tree}
use Rattle.kk_match.specs.Turned.{turned}
use Rattle.kk_match.proofs.turned.turned.Given as goal

abbrev pub invariant-loop-node : goal.invariant-loop-node
invariant-loop-node l = map node_tree l.found.items ++ turned l.last (map node_tree l.left.items) ≡ turned l.last (map node_tree l.fn.nodes.items)

abbrev pub decreases-loop-node : goal.decreases-loop-node
decreases-loop-node l = vec_len l.left
