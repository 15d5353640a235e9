use Rattle.std.proofs.Common.{◌+◌, [], length}
use Rattle.kk_unify.specs.NodesOf.{node_trees}
use Rattle.kk_unify.specs.Unification.{KeepsFormed, weight, Steps}
use Rattle.kk_unify.proofs.join.join.Given as goal

abbrev pub invariant-loop-first : goal.invariant-loop-first
invariant-loop-first l = KeepsFormed (node_trees l.fn.nodes) (node_trees l.nodes) × Steps (node_trees l.fn.nodes) [] l.fn.first l.fn.second (node_trees l.nodes) l.pairs.items

abbrev pub decreases-loop-first : goal.decreases-loop-first
decreases-loop-first l = weight (node_trees l.nodes) + length l.pairs.items
