use Rattle.std.proofs.Common.{◌-◌, map, arith, refl, ap, ◌∙◌}
use Rattle.kk_counted.specs.CountedForms.{block_code, step_move}
use Rattle.kk_dropspec.proofs.NumberForms.{block_int32, arms_pushed, made_more}
use Rattle.kk_fuse.specs.Fused.{fuse}
use Rattle.kk_fuse.specs.FusedForms.{fused_moves}
use Rattle.kk_fuse.proofs.Forms.{block_fused, case_fused, made_before, moves_put, none_made, none_int32, all_made, all_int32}
use Rattle.kk_fuse.proofs.fuse.+fused_block.Goals as goal

pub fused_block-returns-clause-same : goal.fused_block-returns-clause-same
fused_block-returns-clause-same t c =
    block_fused c.args.block.now _
    (c.in_ok-steps.ensures.same ∙ ap (λ steps. fused_moves (map step_move steps)) c.deref.ensures.value)
    c.in_ok-last.ensures.same

pub fused_block-returns-clause-numbers : goal.fused_block-returns-clause-numbers
fused_block-returns-clause-numbers t c = block_int32 _ c.in_ok-steps.ensures.numbers c.in_ok-last.ensures.numbers

pub fused_steps-back-init : goal.fused_steps-back-init
fused_steps-back-init t c = (
  none_made c.new-made.result.items c.args.steps.now c.new-made.ensures.items,
  (none_int32 c.new-made.result.items c.new-made.ensures.items, omega arith),
)

pub fused_steps-back-preserved : goal.fused_steps-back-preserved
fused_steps-back-preserved t c = (
  made_before c.back.made.items c.put_fused.new.made.items c.args.steps.now (c.back.left - 1) c.back.left c.in_ok-step.step
      c.index-steps-left.result (omega (arith, c.back-test.true)) (omega (arith, c.back-test.true, c.back.invariant.1.1))
      c.index-steps-left.is c.in_ok-put_fused.ensures c.in_ok-step.ensures.same c.back.invariant.0,
  (
    moves_put c.back.made.items c.put_fused.new.made.items c.in_ok-step.step c.in_ok-put_fused.ensures c.in_ok-step.ensures.numbers
        c.back.invariant.1.0,
    omega (arith, c.back-test.true, c.back.invariant.1.1),
  ),
)

pub fused_steps-returns-clause-same : goal.fused_steps-returns-clause-same
fused_steps-returns-clause-same t c =
    all_made c.back.made.items c.reverse.new.self.items c.args.steps.now c.back.left (omega (arith, c.back-test.false))
    c.reverse.ensures.items c.back.invariant.0

pub fused_steps-returns-clause-numbers : goal.fused_steps-returns-clause-numbers
fused_steps-returns-clause-numbers t c =
    all_int32 c.back.made.items c.reverse.new.self.items c.reverse.ensures.items c.back.invariant.1.0

pub fused_last-returns-in_ok-decisions-in-Case-clause-same : goal.fused_last-returns-in_ok-decisions-in-Case-clause-same
fused_last-returns-in_ok-decisions-in-Case-clause-same t c =
    case_fused c.args.last.now _ c.in-Case.variable _ c.in_ok-decisions-in-Case.decisions _ c.in_ok-arms-in-Case.arms
    c.in-Case.is refl c.in_ok-decisions-in-Case.ensures.decisions
    (c.in_ok-arms-in-Case.ensures.same ∙ ap (λ arms. map fuse (map block_code arms)) c.deref-in-Case.ensures.value)

pub fused_arms-loop-arm-preserved : goal.fused_arms-loop-arm-preserved
fused_arms-loop-arm-preserved t c = (
  made_more block_code block_code fuse c.loop-arm.made.items c.push.new.self.items _ c.args.arms.now c.loop-arm.arm-index
      c.arm-item.result c.loop-arm-test.true c.arm-item.is c.in_ok-push.ensures.items
      c.in_ok-fused_block.ensures.same c.loop-arm.invariant.0,
  arms_pushed _ _ _ c.in_ok-push.ensures.items c.loop-arm.invariant.1 c.in_ok-fused_block.ensures.numbers,
)
