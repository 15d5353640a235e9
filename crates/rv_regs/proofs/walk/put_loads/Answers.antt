use Rattle.rv_regs.proofs.WalkSteps.{put_load}
use Rattle.rv_regs.specs.Backwards.{backwards}
use Rattle.rv_regs.specs.Plain.{loads}
use Rattle.rv_regs.specs.Views.{lists_of}
use Rattle.rv_regs.proofs.walk.put_loads.Goals as goal

pub loop-index-preserved : goal.loop-index-preserved
loop-index-preserved c =
    put_load (lists_of c.args.point.now) c.args.loaded.now c.loop-index.index c.index-loaded-index.result c.in_ok-alive.alive.items (backwards c.loop-index.items.items) (backwards c.put_before.new.items.items)
    (loads (lists_of c.args.point.now) c.args.loaded.now (backwards c.args.items.now.items))
    c.loop-index-test.true c.index-loaded-index.is c.in_ok-alive.ensures c.in_ok-put_before.ensures c.loop-index.invariant
