use Rattle.std.proofs.Common.{◌+◌, ◌<◌, true, map, length, drop, get_or, ap, subst, ◌∙◌}
use Rattle.kk_counted.specs.CountedForms.{block_code, step_move}
use Rattle.kk_counted.specs.TokenedForms.{TokenedMove}
use Rattle.kk_reuse.specs.PairedForms.{moves_may_make, stay_held}
use Rattle.kk_reuse.proofs.Steps.{arms_written}
use Rattle.kk_reuse.proofs.WrittenSteps.{block_begun, block_written, drop_written, dup_written, if_unique_written, inside_written, left_of_none, left_of_some, one_written, open_written, read_written, to_end}
use Rattle.kk_reuse.proofs.pairing.+paired_block.Goals as goal
use Rattle.kk_reuse.proofs.pairing.+paired_block.Goals.{paired_inside-then-makes+in_ok-left, paired_inside-else-makes}

pub paired_block-loop-i-init : goal.paired_block-loop-i-init
paired_block-loop-i-init t c =
    block_begun c.args.behind.makes c.may_make.result c.args.behind.left c.args.tokens c.in_ok-tokens.tokens c.args.block.now
    c.new-steps.result.items c.settle.new.steps.items c.new-steps.ensures.items c.may_make.ensures c.in_ok-tokens.ensures.left
    c.in_ok-tokens.ensures.code

pub paired_block-loop-i-preserved : goal.paired_block-loop-i-preserved
paired_block-loop-i-preserved t c =
    let rest = c.deref.result.now in
    one_written c.args.behind.makes c.steps_may_make-makes.result c.loop-i.already c.stay_held-stays.result c.args.behind.left
    c.loop-i.tokens c.in_ok-tokens-2.tokens c.in_ok-tokens-3.tokens c.loop-i.i c.args.block.now.steps.items c.step-item.result
    c.args.block.now.last _ c.loop-i.steps.items c.paired_step.new.steps.items c.settle-in-loop-i.new.steps.items
    (subst (λ items. c.loop-i.i < length items) c.deref-step-items.ensures.value c.loop-i-test.true)
    (c.step-item.is ∙ ap (λ items. get_or items c.loop-i.i c.step-item.result) c.deref-step-items.ensures.value)
    (c.steps_may_make-makes.ensures
    ∙ ap (λ items. moves_may_make c.last_may_make-end_makes.result (map step_move items)) (to_end rest (c.loop-i.i + 1))
    ∙ ap (λ items. moves_may_make c.last_may_make-end_makes.result (map step_move (drop (c.loop-i.i + 1) items)))
    c.deref.ensures.value
    ∙ ap (λ makes. moves_may_make makes (map step_move (drop (c.loop-i.i + 1) c.args.block.now.steps.items)))
    c.last_may_make-end_makes.ensures)
    (c.stay_held-stays.ensures
    ∙ ap (λ items. stay_held c.steps_may_make-makes.result c.loop-i.already (step_move c.step-item.result) (map step_move items))
    (to_end rest (c.loop-i.i + 1))
    ∙ ap (λ items. stay_held c.steps_may_make-makes.result c.loop-i.already (step_move c.step-item.result)
    (map step_move (drop (c.loop-i.i + 1) items))) c.deref.ensures.value)
    c.in_ok-tokens-2.ensures.left c.in_ok-tokens-3.ensures.left c.in_ok-tokens-2.ensures.code c.in_ok-tokens-3.ensures.code
    c.loop-i.invariant

pub paired_block-returns : goal.paired_block-returns
paired_block-returns t c =
    block_written c.args.behind.makes c.loop-i.already c.args.behind.left c.loop-i.tokens c.loop-i.i c.args.block.now c.deref-step-items.result.now _
    c.loop-i.steps.items _ c.deref-step-items.ensures.value c.loop-i-test.false c.loop-i.invariant c.in_ok-last.ensures

pub paired_step-returns-in_ok-push-in-Read-clause-code : goal.paired_step-returns-in_ok-push-in-Read-clause-code
paired_step-returns-in_ok-push-in-Read-clause-code t c =
    read_written c.args.steps.now.items c.push.new.self.items c.args.step.now c.in_ok-read-in-Read.read c.args.held.already
    c.args.held.stays c.args.makes c.args.tokens
    c.in-Read.variable c.in-Read.constructor c.in-Read.fields c.in-Read.is
    (c.in_ok-read-in-Read.ensures
    ∙ ap (TokenedMove.reads c.in-Read.variable c.in-Read.constructor) c.deref-in-Read.ensures.value)
    c.in_ok-push-in-Read.ensures.items

pub paired_step-returns-in_ok-push-in-Open-clause-code : goal.paired_step-returns-in_ok-push-in-Open-clause-code
paired_step-returns-in_ok-push-in-Open-clause-code t c =
    open_written c.args.steps.now.items c.push-in-Open.new.self.items c.args.step.now c.in_ok-open-in-Open.open c.args.held.already
    c.args.held.stays c.args.makes c.args.tokens c.in-Open.variable c.in-Open.constructor c.in-Open.fields c.in-Open.used c.in-Open.is
    (c.in_ok-open-in-Open.ensures
    ∙ ap (λ xs. TokenedMove.opens c.in-Open.variable c.in-Open.constructor xs c.deref-in-Open-2.result.now c.args.tokens)
    c.deref-in-Open.ensures.value
    ∙ ap (λ xs. TokenedMove.opens c.in-Open.variable c.in-Open.constructor c.in-Open.fields.items xs c.args.tokens)
    c.deref-in-Open-2.ensures.value)
    c.in_ok-push-in-Open.ensures.items

pub paired_step-returns-in_ok-push-in-IfUnique-clause-code : goal.paired_step-returns-in_ok-push-in-IfUnique-clause-code
paired_step-returns-in_ok-push-in-IfUnique-clause-code t c =
    if_unique_written c.args.steps.now.items c.push-in-IfUnique.new.self.items c.args.step.now c.in_ok-open-in-IfUnique.open
    c.args.held.already c.args.held.stays c.args.makes c.args.tokens c.in-IfUnique.variable c.in-IfUnique.constructor c.in-IfUnique.fields c.in-IfUnique.used
    c.in-IfUnique.is
    (c.in_ok-open-in-IfUnique.ensures
    ∙ ap (λ xs. TokenedMove.opens_unique c.in-IfUnique.variable c.in-IfUnique.constructor xs c.deref-in-IfUnique-2.result.now
    c.args.tokens)
    c.deref-in-IfUnique.ensures.value
    ∙ ap (λ xs. TokenedMove.opens_unique c.in-IfUnique.variable c.in-IfUnique.constructor c.in-IfUnique.fields.items xs
    c.args.tokens)
    c.deref-in-IfUnique-2.ensures.value)
    c.in_ok-push-in-IfUnique.ensures.items

pub paired_step-returns-in_ok-push-in-Dup-clause-code : goal.paired_step-returns-in_ok-push-in-Dup-clause-code
paired_step-returns-in_ok-push-in-Dup-clause-code t c =
    dup_written c.args.steps.now.items c.push-in-Dup.new.self.items c.args.step.now c.args.held.already c.args.held.stays c.args.makes
    c.args.tokens c.in-Dup.variable
    c.in-Dup.is c.in_ok-push-in-Dup.ensures.items

pub paired_step-returns-in_ok-push-in-Drop-clause-code : goal.paired_step-returns-in_ok-push-in-Drop-clause-code
paired_step-returns-in_ok-push-in-Drop-clause-code t c =
    drop_written c.args.steps.now.items c.push-in-Drop.new.self.items c.args.step.now c.args.held.already c.args.held.stays c.args.makes
    c.args.tokens c.in-Drop.variable
    c.in-Drop.is c.in_ok-push-in-Drop.ensures.items

pub paired_inside-returns-clause-left : goal.paired_inside-returns-clause-left
paired_inside-returns-clause-left t c =
    elim c.if-makes.branch [
      | paired_inside-then-makes+in_ok-left w ↦
          left_of_some c.args.makes c.args.tokens c.if-makes.left (block_code c.args.block.now) w.if-makes.true (w.left-is
          ∙ w.in_ok-left.ensures)
      | paired_inside-else-makes w ↦
          left_of_none c.args.makes c.args.tokens c.if-makes.left (block_code c.args.block.now) w.if-makes.false w.left-is
    ]

pub paired_inside-returns-clause-code : goal.paired_inside-returns-clause-code
paired_inside-returns-clause-code t c =
    inside_written c.args.steps.now.items c.push.new.self.items c.args.makes c.args.tokens c.args.variable c.if-makes.left
    (block_code c.args.block.now) c.in_ok-block.block c.in_ok-push.ensures.items
    (paired_inside-returns-clause-left t c)
    c.in_ok-block.ensures

pub paired_arms-returns : goal.paired_arms-returns
paired_arms-returns t c =
    arms_written c.args.behind.makes c.args.behind.left c.args.tokens c.loop-arm.made.items c.args.arms.now c.loop-arm.arm-index
    c.loop-arm-test.false c.loop-arm.invariant
