use Rattle.std.proofs.Common.{◌-◌, arith}
use Rattle.kk_counted.specs.TokenedForms.{put_steps}
use Rattle.kk_counted.proofs.TokenedViews.{null_step}
use Rattle.kk_reuse.specs.Pairing.{nulls}
use Rattle.kk_reuse.proofs.Steps.{nulls_next, one_slot_done}
use Rattle.kk_reuse.proofs.slots.null_all.Goals as goal

pub down-preserved : goal.down-preserved
down-preserved c =
    one_slot_done nulls (λ rest. put_steps c.args.steps.now.items (nulls c.args.tokens rest)) c.down.steps.items
    c.push.new.self.items _ _
    c.down.slot (c.down.slot - 1) c.in_ok-push.ensures.items (null_step (c.down.slot - 1))
    (nulls_next c.down.slot (c.down.slot - 1) (omega arith)) c.down.invariant
