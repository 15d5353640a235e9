use Rattle.kk_counted.proofs.TokenedViews.{hold_step}
use Rattle.kk_counted.specs.TokenedForms.{TokenedMove, tokened_move}
use Rattle.kk_emitter.proofs.StepLists.{step_more}
use Rattle.kk_emitter.proofs.steps.hold_all.Goals as goal

pub loop-slot-preserved : goal.loop-slot-preserved
loop-slot-preserved c =
    step_more tokened_move TokenedMove.holds c.loop-slot.steps.items c.push.new.self.items _ c.args.slots.now c.loop-slot.slot-index 0 _ c.loop-slot-test.true c.in_ok-push.ensures.items (hold_step _) c.loop-slot.invariant
