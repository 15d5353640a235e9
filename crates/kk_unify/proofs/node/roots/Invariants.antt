use Rattle.std.proofs.Common.{◌≡◌, length}
use Rattle.kk_unify.specs.NodesOf.{node_trees}
use Rattle.kk_unify.proofs.NodeRoots.{RootsSoFar}
use Rattle.kk_unify.proofs.node.roots.Given as goal

abbrev pub invariant-loop-number : goal.invariant-loop-number
invariant-loop-number l = (length l.roots.items ≡ l.number) × RootsSoFar (node_trees l.nodes) l.roots.items
