use Rattle.kk_unify.specs.NodesOf.{node_trees}
use Rattle.kk_unify.specs.Unification.{Leads}
use Rattle.kk_unify.proofs.join.find.Given as goal

abbrev pub invariant-loop-nodes : goal.invariant-loop-nodes
invariant-loop-nodes l = Leads (node_trees l.fn.nodes) (node_trees l.nodes) l.start l.at

abbrev pub decreases-loop-nodes : goal.decreases-loop-nodes
decreases-loop-nodes l = l.at
