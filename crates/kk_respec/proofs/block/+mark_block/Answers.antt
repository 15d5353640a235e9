use Rattle.std.proofs.Common.{rules, map, length, sym, ap, ◌∙◌, arith}
use Rattle.std.proofs.lemmas.List.{with_items_is}
use Rattle.kk_counted.specs.TokenedForms.{tokened_arms, tokened_code, tokened_last_code, tokened_move}
use Rattle.kk_respec.specs.KnownTokens.{known_of}
use Rattle.kk_respec.specs.Respecialised.{respec}
use Rattle.kk_respec.specs.RespecialisedForms.{respec_move}
use Rattle.kk_reuse.proofs.WrittenSteps.{on_ok}
use Rattle.kk_respec.proofs.StepMarks.{step_marked, block_marked, arms_marked}
use Rattle.kk_respec.proofs.block.+mark_block.Goals as goal

pub mark_block-loop-step-preserved : goal.mark_block-loop-step-preserved
mark_block-loop-step-preserved t c = (
  search rules,
  step_marked (map known_of c.loop-step.known.items) (map known_of c.learn.new.known.items) c.loop-step.step-items
      c.mark_step.new.step c.step-item.result c.loop-step.step-index (tokened_last_code c.args.block.now.last) _
      (omega (arith, c.loop-step-test.true, c.loop-step.invariant.0.0)) c.step-item.is
      (c.in_ok-mark_step.ensures
      ∙ ap (λ step. respec_move (map known_of c.deref.result.now) (tokened_move step)) (sym c.step-item.is)
      ∙ ap (λ known. respec_move (map known_of known) (tokened_move c.step-item.result)) c.deref.ensures.value)
      c.in_ok-learn.ensures c.loop-step.invariant.1,
)

pub mark_block-returns : goal.mark_block-returns
mark_block-returns t c =
    on_ok c.mark_last.result c.mark_last.ensures
    (λ marked. block_marked (map known_of c.loop-step.known.items) c.args.block.now c.loop-step.step-items c.mark_last.new.last
    c.loop-step.step-index _ (c.loop-step.invariant.0.0 ∙ c.deref_mut-step-items.ensures.len)
    (omega (arith, c.loop-step-test.false, c.loop-step.invariant.0.0)) c.loop-step.invariant.1
    (marked ∙ ap (λ known. respec (map known_of known) (tokened_last_code c.args.block.now.last)) c.deref-2.ensures.value))

pub mark_arms-returns : goal.mark_arms-returns
mark_arms-returns t c =
    ap (λ xs. tokened_arms (map tokened_code xs)) (with_items_is c.args.arms.now c.loop-arm.arm-items
    (c.loop-arm.invariant.0.0 ∙ c.deref_mut-arm-items.ensures.len))
    ∙ arms_marked (map known_of c.args.known.now) c.loop-arm.arm-items c.args.arms.now.items c.loop-arm.arm-index
    (omega (arith, c.loop-arm-test.false, c.loop-arm.invariant.0.0))
    (omega (arith, c.loop-arm-test.false, ap length c.deref_mut-arm-items.ensures.value))
    c.loop-arm.invariant.1
