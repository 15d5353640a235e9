use Rattle.kk_core.specs.Decisions.{node_tree}
use Rattle.kk_counted.proofs.EdgeNumbers.{copies_so_far, nodes_pushed}
use Rattle.kk_counted.proofs.copies.copied_decisions.Goals as goal

pub loop-node-preserved : goal.loop-node-preserved
loop-node-preserved c = (
  copies_so_far node_tree c.loop-node.nodes.items c.push.new.self.items c.args.decisions.now.nodes.items
      c.nodes-node-items.result.now c.loop-node.node-index c.node-item.result c.in_ok-copy.copy c.nodes-node-items.ensures
      c.loop-node-test.true c.node-item.is c.in_ok-push.ensures.items c.in_ok-copy.ensures.same c.loop-node.invariant.0,
  nodes_pushed c.loop-node.nodes.items c.push.new.self.items c.in_ok-copy.copy c.in_ok-push.ensures.items
      c.loop-node.invariant.1 c.in_ok-copy.ensures.numbers,
)
