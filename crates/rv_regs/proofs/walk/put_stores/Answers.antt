use Rattle.std.proofs.Common.{arith}
use Rattle.rv_regs.proofs.WalkSteps.{put_store}
use Rattle.rv_regs.specs.Backwards.{backwards}
use Rattle.rv_regs.specs.Views.{lists_of}
use Rattle.rv_regs.proofs.walk.put_stores.Goals as goal

pub loop-left-preserved : goal.loop-left-preserved
loop-left-preserved c =
    record {
      within = omega arith;
      written = put_store (lists_of c.args.point.now) c.args.pending.now c.loop-left.left c.index-pending-left.result c.in_ok-alive.alive.items (backwards c.loop-left.items.items) (backwards c.put_before.new.items.items)
          (backwards c.args.items.now.items) c.loop-left.invariant.within c.loop-left-test.true c.index-pending-left.is c.in_ok-alive.ensures c.in_ok-put_before.ensures c.loop-left.invariant.written;
    }
