use Rattle.std.proofs.Common.{map, refl, ap, ◌∙◌}
use Rattle.kk_counted.specs.CountedForms.{block_code, step_move}
use Rattle.kk_dropspec.specs.Specialised.{special}
use Rattle.kk_dropspec.specs.SpecialForms.{special_move}
use Rattle.kk_dropspec.proofs.Forms.{block_special, case_special}
use Rattle.kk_dropspec.proofs.NumberForms.{block_int32, case_int32, moves_pushed, arms_pushed, made_more}
use Rattle.kk_dropspec.proofs.special.+special_block.Goals as goal

pub special_block-returns-clause-same : goal.special_block-returns-clause-same
special_block-returns-clause-same t c =
    block_special c.args.block.now _
    (c.in_ok-steps.ensures.same ∙ ap (λ steps. map special_move (map step_move steps)) c.deref.ensures.value)
    c.in_ok-last.ensures.same

pub special_block-returns-clause-numbers : goal.special_block-returns-clause-numbers
special_block-returns-clause-numbers t c = block_int32 _ c.in_ok-steps.ensures.numbers c.in_ok-last.ensures.numbers

pub special_steps-loop-step-preserved : goal.special_steps-loop-step-preserved
special_steps-loop-step-preserved t c = (
  made_more step_move step_move special_move c.loop-step.made.items c.push.new.self.items _ c.args.steps.now c.loop-step.step-index c.step-item.result
      c.loop-step-test.true c.step-item.is c.in_ok-push.ensures.items c.in_ok-special_step.ensures.same c.loop-step.invariant.0,
  moves_pushed _ _ _ c.in_ok-push.ensures.items c.loop-step.invariant.1 c.in_ok-special_step.ensures.numbers,
)

pub special_last-returns-in_ok-decisions-in-Case-clause-same : goal.special_last-returns-in_ok-decisions-in-Case-clause-same
special_last-returns-in_ok-decisions-in-Case-clause-same t c =
    case_special c.args.last.now _ c.in-Case.variable _ c.in_ok-decisions-in-Case.decisions _ c.in_ok-arms-in-Case.arms
    c.in-Case.is refl c.in_ok-decisions-in-Case.ensures.decisions
    (c.in_ok-arms-in-Case.ensures.same ∙ ap (λ arms. map special (map block_code arms)) c.deref-in-Case.ensures.value)

pub special_last-returns-in_ok-decisions-in-Case-clause-numbers : goal.special_last-returns-in_ok-decisions-in-Case-clause-numbers
special_last-returns-in_ok-decisions-in-Case-clause-numbers t c =
    case_int32 c.in-Case.variable c.in_ok-decisions-in-Case.decisions c.in_ok-arms-in-Case.arms
    c.in_ok-decisions-in-Case.ensures.numbers c.in_ok-arms-in-Case.ensures.numbers

pub special_arms-loop-arm-preserved : goal.special_arms-loop-arm-preserved
special_arms-loop-arm-preserved t c = (
  made_more block_code block_code special c.loop-arm.made.items c.push.new.self.items _ c.args.arms.now c.loop-arm.arm-index c.arm-item.result
      c.loop-arm-test.true c.arm-item.is c.in_ok-push.ensures.items c.in_ok-special_block.ensures.same c.loop-arm.invariant.0,
  arms_pushed _ _ _ c.in_ok-push.ensures.items c.loop-arm.invariant.1 c.in_ok-special_block.ensures.numbers,
)
