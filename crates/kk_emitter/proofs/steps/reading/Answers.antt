use Rattle.kk_counted.proofs.TokenedViews.{dup_step}
use Rattle.kk_counted.specs.TokenedForms.{TokenedMove, tokened_move}
use Rattle.kk_emitter.proofs.StepLists.{step_more}
use Rattle.kk_emitter.proofs.steps.reading.Goals as goal

pub loop-field-preserved : goal.loop-field-preserved
loop-field-preserved c =
    step_more tokened_move TokenedMove.dups c.loop-field.steps.items c.push-in-loop-field.new.self.items _ c.args.used.now c.loop-field.field-index 0 _ c.loop-field-test.true c.in_ok-push-2.ensures.items (dup_step _) c.loop-field.invariant
