use Rattle.std.proofs.Common.{◌+◌, ap, refl, sym, ◌∙◌}
use Rattle.kk_counted.specs.TokenedCodes.{Tokened}
use Rattle.kk_counted.specs.TokenedForms.{put_steps}
use Rattle.kk_counted.proofs.TokenedViews.{hold_step, step_pushed}
use Rattle.kk_reuse.proofs.Steps.{holds_next}
use Rattle.kk_reuse.proofs.slots.hold_all.Goals as goal

pub loop-slot-preserved : goal.loop-slot-preserved
loop-slot-preserved c rest =
    step_pushed c.loop-slot.steps.items c.push.new.self.items _ _ c.in_ok-push.ensures.items (hold_step c.loop-slot.slot) rest
    ∙ c.loop-slot.invariant (Tokened.hold c.loop-slot.slot rest)
    ∙ sym (ap (put_steps c.args.steps.now.items) (holds_next c.loop-slot.slot (c.loop-slot.slot + 1) refl rest))
