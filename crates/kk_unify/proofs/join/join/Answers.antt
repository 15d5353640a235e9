use Rattle.kk_unify.specs.NodesOf.{node_trees}
use Rattle.kk_unify.proofs.NodePairs.{steps_on, on_true}
use Rattle.kk_unify.proofs.join.join.Goals as goal

pub loop-first-preserved : goal.loop-first-preserved
loop-first-preserved c = (
  (λ variables formed. c.join_pair-in-Some.ensures.formed variables (c.loop-first.invariant.0 variables formed)),
  steps_on (node_trees c.args.nodes.now) c.args.first c.args.second (node_trees c.loop-first.nodes) c.pop.new.self.items (c.in-Some.first, c.in-Some.second) c.loop-first.pairs.items c.in-Some.ensures.items c.loop-first.invariant.1 c.join_pair-in-Some.new.pairs.items (node_trees c.join_pair-in-Some.new.nodes) (on_true _ _ _ c.if-not-branch-2.false c.in_ok-join_pair-2.ensures.joined),
)
