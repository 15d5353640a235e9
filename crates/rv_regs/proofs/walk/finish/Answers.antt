use Rattle.rv_regs.proofs.WalkSteps.{finished}
use Rattle.rv_regs.proofs.walk.finish.Goals as goal

pub returns : goal.returns
returns c =
    λ code come. finished c.args.params.now c.args.walk code come c.in_ok-loaded.loaded.items c.deref.result.now c.in_ok-pending.pending.items c.deref-3.result.now c.deref-2.result.now
    c.put_stores.new.items.items c.reverse.new.self.items c.in_ok-loaded.ensures c.deref.ensures.value c.deref-2.ensures.value c.in_ok-pending.ensures c.deref-3.ensures.value
    c.in_ok-put_stores.ensures c.reverse.ensures.items
