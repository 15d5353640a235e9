use Rattle.std.proofs.Common.{true}
use Rattle.kk_counted.specs.CountedForms.{last_code}
use Rattle.kk_reuse.specs.Following.{leaves}
use Rattle.kk_reuse.proofs.Walks.{also, arm_leaves, block_leaves, step_leaves}
use Rattle.kk_reuse.proofs.following.+leaves.Goals as goal

pub leaves-loop-step-preserved : goal.leaves-loop-step-preserved
leaves-loop-step-preserved t c =
    step_leaves c.deref-step-items.result.now c.loop-step.step-index c.loop-step.left c.in_ok-left.left _ c.step-item.result
    (last_code c.args.block.now.last) c.loop-step-test.true c.step-item.is c.in_ok-left.ensures c.loop-step.invariant

pub leaves-returns : goal.leaves-returns
leaves-returns t c =
    also c.last_leaves.result c.last_leaves.ensures
    (block_leaves c.args.tokens c.loop-step.left c.args.block.now c.deref-step-items.result.now c.loop-step.step-index
    c.deref-step-items.ensures.value c.loop-step-test.false c.loop-step.invariant)

pub arms_leave-loop-arm-preserved : goal.arms_leave-loop-arm-preserved
arms_leave-loop-arm-preserved t c =
    arm_leaves c.args.tokens c.loop-arm.most c.in_ok-leaves.field-0 c.max-most.result _ c.args.arms.now c.loop-arm.arm-index
    c.arm-item.result c.loop-arm-test.true c.arm-item.is c.in_ok-leaves.ensures c.max-most.ensures c.loop-arm.invariant
