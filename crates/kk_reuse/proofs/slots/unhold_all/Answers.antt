use Rattle.std.proofs.Common.{◌-◌, arith}
use Rattle.kk_counted.specs.TokenedForms.{put_steps}
use Rattle.kk_counted.proofs.TokenedViews.{unhold_step}
use Rattle.kk_reuse.specs.Pairing.{unholds}
use Rattle.kk_reuse.proofs.Steps.{unholds_next, one_slot_done}
use Rattle.kk_reuse.proofs.slots.unhold_all.Goals as goal

pub down-preserved : goal.down-preserved
down-preserved c =
    one_slot_done unholds (λ rest. put_steps c.args.steps.now.items (unholds c.args.tokens rest)) c.down.steps.items
    c.push.new.self.items _ _
    c.down.slot (c.down.slot - 1) c.in_ok-push.ensures.items (unhold_step (c.down.slot - 1))
    (unholds_next c.down.slot (c.down.slot - 1) (omega arith)) c.down.invariant
