use Rattle.kk_counted.proofs.EdgeNumbers.{edges_pushed, items_more}
use Rattle.kk_counted.proofs.copies.copied_edges.Goals as goal

pub loop-edge-preserved : goal.loop-edge-preserved
loop-edge-preserved c = (
  items_more c.loop-edge.copy.items c.push.new.self.items c.args.edges.now c.loop-edge.edge-index _ c.loop-edge-test.true
      c.in_ok-push.ensures.items c.loop-edge.invariant.0,
  edges_pushed c.loop-edge.copy.items c.push.new.self.items _ c.in_ok-push.ensures.items c.loop-edge.invariant.1
      c.numbers_of_answers_are_small.ensures,
)
