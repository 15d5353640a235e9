use Rattle.std.proofs.Common.{◌<◌, arith}
use Rattle.kk_unify.specs.NodesOf.{node_trees}
use Rattle.kk_unify.proofs.HeadSearch.{next_earlier, next_leads, next_halved}
use Rattle.kk_unify.proofs.join.find.Goals as goal

pub bounds-in-Same : goal.bounds-in-Same
bounds-in-Same c =
    let earlier : c.in-Same.to < c.loop-nodes.at = next_earlier c.requires.linked.0 (node_trees c.args.nodes.now) c.loop-nodes.nodes c.args.start c.loop-nodes.at c.in-Same.to _ c.requires.linked.1 c.loop-nodes.invariant (omega arith) c.in-Same.is in
    omega arith

pub bounds-nodes-to : goal.bounds-nodes-to
bounds-nodes-to c =
    let earlier : c.in-Same.to < c.loop-nodes.at = next_earlier c.requires.linked.0 (node_trees c.args.nodes.now) c.loop-nodes.nodes c.args.start c.loop-nodes.at c.in-Same.to _ c.requires.linked.1 c.loop-nodes.invariant (omega arith) c.in-Same.is in
    omega arith

pub loop-nodes-smaller : goal.loop-nodes-smaller
loop-nodes-smaller c =
    next_earlier c.requires.linked.0 (node_trees c.args.nodes.now) c.loop-nodes.nodes c.args.start c.loop-nodes.at c.in-Same.to _ c.requires.linked.1 c.loop-nodes.invariant (omega arith) c.in-Same.is

pub loop-nodes-smaller-in-Same-nodes : goal.loop-nodes-smaller-in-Same-nodes
loop-nodes-smaller-in-Same-nodes c =
    next_earlier c.requires.linked.0 (node_trees c.args.nodes.now) c.loop-nodes.nodes c.args.start c.loop-nodes.at c.in-Same.to _ c.requires.linked.1 c.loop-nodes.invariant (omega arith) c.in-Same.is

pub loop-nodes-preserved : goal.loop-nodes-preserved
loop-nodes-preserved c =
    next_leads c.requires.linked.0 (node_trees c.args.nodes.now) c.loop-nodes.nodes c.args.start c.loop-nodes.at c.in-Same.to _ c.requires.linked.1 c.loop-nodes.invariant (omega arith) c.in-Same.is

pub loop-nodes-preserved-in-Same-nodes : goal.loop-nodes-preserved-in-Same-nodes
loop-nodes-preserved-in-Same-nodes c =
    next_halved c.requires.linked.0 (node_trees c.args.nodes.now) c.loop-nodes.nodes c.args.start c.loop-nodes.at c.in-Same.to _ c.requires.linked.1 c.loop-nodes.invariant (omega arith) c.in-Same.is c.in-Same-nodes.next _ c.in-Same-nodes.is
