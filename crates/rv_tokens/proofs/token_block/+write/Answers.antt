use Rattle.std.proofs.Common.{◌+◌, List, map, take, drop, refl, sym, subst, ap, ◌∙◌, arith}
use Rattle.std.proofs.lemmas.Result.{on_ok_weaker}
use Rattle.kk_counted.specs.TokenedCodes.{Tokened}
use Rattle.kk_counted.specs.TokenedForms.{tokened_code, tokened_move}
use Rattle.rv_lower.specs.Written.{goal_of}
use Rattle.rv_tokens.specs.TokenedWritten.{variables_known, WroteTokened, WroteTokenedArms}
use Rattle.kk_counted.specs.declared.tokened.TokenedStep.{TokenedStep}
use Rattle.rv_cells.specs.ComparisonBranch.{AreNoLines}
use Rattle.rv_tokens.specs.Written.{facts_of, holds_known}
use Rattle.rv_tokens.proofs.WrittenNodes.{length_mapped}
use Rattle.rv_tokens.proofs.TokenCodeGrowth.{
  steps_none,
  steps_on,
  step_asks,
  step_runs,
  step_reads,
  step_dups,
  step_drops,
  step_frees,
  step_nulls,
  step_moves,
  step_holds,
  step_unholds,
  step_wrote,
  steps_before,
  step_of_let,
  step_of_inside,
  step_of_read,
  step_of_dup,
  step_of_drop,
  step_of_free,
  step_of_null,
  step_of_move,
  step_of_hold,
  step_of_unhold,
  arms_then,
  code_if_tokens,
  code_of_if_token,
  cases_written,
  blocks_more,
}
use Rattle.rv_tokens.proofs.TokenJoins.{branches_given, block_branches, block_plain}
use Rattle.rv_tokens.proofs.token_block.+write.Goals as goal

pub write_steps-loop-index-init : goal.write_steps-loop-index-init
write_steps-loop-index-init t c =
    steps_none (facts_of c.args.known.now) (variables_known c.args.known.now) (map tokened_move c.args.steps.now)
    c.args.lowering.now

pub write_steps-loop-index-preserved : goal.write_steps-loop-index-preserved
write_steps-loop-index-preserved t c =
    steps_on (facts_of c.args.known.now) (variables_known c.args.known.now) c.args.steps.now c.loop-index.index
    c.index-steps-index.result c.loop-index-test.true c.index-steps-index.is c.loop-index.invariant c.in_ok-write_step.ensures

pub write_step-returns-in-Let : goal.write_step-returns-in-Let
write_step-returns-in-Let t c =
    on_ok_weaker c.write_asking.result
    (λ wrote. step_wrote c.args.step.now (step_of_let c.args.step.now c.in-Let.variable
    c.in-Let.form c.in-Let.arguments c.in-Let.others c.deref.result.now c.deref-in-Let.result.now c.in-Let.is c.deref.ensures.value
    c.deref-in-Let.ensures.value)
    (step_asks (facts_of c.args.known.now) (variables_known c.args.known.now) c.in-Let.variable c.in-Let.form c.deref.result.now
    c.deref-in-Let.result.now wrote)) c.write_asking.ensures

pub write_step-returns-in-Inside : goal.write_step-returns-in-Inside
write_step-returns-in-Inside t c =
    on_ok_weaker c.write_inside.result
    (λ wrote. step_wrote c.args.step.now (step_of_inside c.args.step.now c.in-Inside.variable
    c.in-Inside.block c.in-Inside.is)
    wrote) c.write_inside.ensures

pub write_step-returns-in-Read : goal.write_step-returns-in-Read
write_step-returns-in-Read t c =
    on_ok_weaker c.write_reading.result
    (λ wrote. step_wrote c.args.step.now (step_of_read c.args.step.now c.in-Read.variable
    c.in-Read.constructor c.in-Read.fields c.deref-in-Read.result.now c.in-Read.is c.deref-in-Read.ensures.value)
    (step_reads (facts_of c.args.known.now) (variables_known c.args.known.now) c.in-Read.variable c.in-Read.constructor
    c.deref-in-Read.result.now wrote)) c.write_reading.ensures

pub write_step-returns-in-Open : goal.write_step-returns-in-Open
write_step-returns-in-Open t c =
    on_ok_weaker c.write_opened.result
    (λ wrote. wrote.0 c.in-Open.variable c.in-Open.constructor c.in-Open.fields c.in-Open.used c.in-Open.slot c.in-Open.is)
    c.write_opened.ensures

pub write_step-returns-in-IfUnique : goal.write_step-returns-in-IfUnique
write_step-returns-in-IfUnique t c =
    on_ok_weaker c.write_opened-in-IfUnique.result
    (λ wrote. wrote.1 c.in-IfUnique.variable c.in-IfUnique.constructor c.in-IfUnique.fields c.in-IfUnique.used c.in-IfUnique.slot
    c.in-IfUnique.is)
    c.write_opened-in-IfUnique.ensures

pub write_step-returns-in-Dup : goal.write_step-returns-in-Dup
write_step-returns-in-Dup t c =
    on_ok_weaker c.write_dup.result
    (λ wrote. step_wrote c.args.step.now (step_of_dup c.args.step.now c.in-Dup.variable c.in-Dup.is)
    (step_dups (facts_of c.args.known.now) (variables_known c.args.known.now) c.in-Dup.variable wrote)) c.write_dup.ensures

pub write_step-returns-in-Drop : goal.write_step-returns-in-Drop
write_step-returns-in-Drop t c =
    on_ok_weaker c.write_drop.result
    (λ wrote. step_wrote c.args.step.now (step_of_drop c.args.step.now c.in-Drop.variable
    c.in-Drop.is)
    (step_drops (facts_of c.args.known.now) (variables_known c.args.known.now) c.in-Drop.variable wrote)) c.write_drop.ensures

pub write_step-returns-in-Fill : goal.write_step-returns-in-Fill
write_step-returns-in-Fill t c =
    on_ok_weaker c.write_filled.result
    (λ wrote. steps_before (map tokened_move c.args.behind.now)
    (wrote c.in-Fill.variable c.in-Fill.slot c.in-Fill.constructor c.in-Fill.first c.in-Fill.arguments c.in-Fill.kept
    c.in-Fill.others c.in-Fill.is))
    c.write_filled.ensures

pub write_step-returns-in-Free : goal.write_step-returns-in-Free
write_step-returns-in-Free t c =
    on_ok_weaker c.write_freed.result
    (λ wrote. step_wrote c.args.step.now (step_of_free c.args.step.now c.in-Free.slot
    c.in-Free.is)
    (step_frees (facts_of c.args.known.now) (variables_known c.args.known.now) c.in-Free.slot wrote)) c.write_freed.ensures

pub write_step-returns-in-Null : goal.write_step-returns-in-Null
write_step-returns-in-Null t c =
    on_ok_weaker c.write_null.result
    (λ wrote. step_wrote c.args.step.now (step_of_null c.args.step.now c.in-Null.slot c.in-Null.is)
    (step_nulls (facts_of c.args.known.now) (variables_known c.args.known.now) c.in-Null.slot wrote)) c.write_null.ensures

pub write_step-returns-in-Hold : goal.write_step-returns-in-Hold
write_step-returns-in-Hold t c =
    on_ok_weaker c.write_hold.result
    (λ wrote. step_wrote c.args.step.now (step_of_hold c.args.step.now c.in-Hold.slot c.in-Hold.is)
    (step_holds (facts_of c.args.known.now) (variables_known c.args.known.now) c.in-Hold.slot wrote)) c.write_hold.ensures

pub write_step-returns-in-Unhold : goal.write_step-returns-in-Unhold
write_step-returns-in-Unhold t c =
    on_ok_weaker c.write_unhold.result
    (λ wrote. step_wrote c.args.step.now (step_of_unhold c.args.step.now c.in-Unhold.slot
    c.in-Unhold.is)
    (step_unholds (facts_of c.args.known.now) (variables_known c.args.known.now) c.in-Unhold.slot wrote)) c.write_unhold.ensures

pub write_step-returns-in-Move : goal.write_step-returns-in-Move
write_step-returns-in-Move t c =
    on_ok_weaker c.write_move.result
    (λ wrote. step_wrote c.args.step.now (step_of_move c.args.step.now c.in-Move.to c.in-Move.from
    c.in-Move.is)
    (step_moves (facts_of c.args.known.now) (variables_known c.args.known.now) c.in-Move.to c.in-Move.from wrote))
    c.write_move.ensures

pub write_inside-returns : goal.write_inside-returns
write_inside-returns t c =
    on_ok_weaker c.write_label.result
    (λ labelled. step_runs (facts_of c.args.known.now) (variables_known c.args.known.now) c.args.into (tokened_code
    c.args.block.now)
    c.in_ok-label.ensures c.in_ok-write_tokened.ensures labelled)
    c.write_label.ensures

pub write_last-returns-in_ok-write_label-in-IfToken : goal.write_last-returns-in_ok-write_label-in-IfToken
write_last-returns-in_ok-write_label-in-IfToken t c =
    on_ok_weaker c.write_tokened-in-IfToken.result
    (λ second. subst (λ (code : Tokened). WroteTokened (facts_of c.args.known.now) (variables_known c.args.known.now) (goal_of
    c.args.goal)
    code c.args.lowering.now c.write_tokened-in-IfToken.new.lowering)
    (code_of_if_token c.args.last.now c.in-IfToken.slot c.in-IfToken.there c.in-IfToken.absent c.deref-in-IfToken.result.now
    c.deref-in-IfToken-2.result.now c.in-IfToken.is c.deref-in-IfToken.ensures c.deref-in-IfToken-2.ensures)
    (code_if_tokens c.in_ok-label-in-IfToken.ensures c.in_ok-write_token_test-in-IfToken.ensures
    c.in_ok-write_tokened-in-IfToken.ensures
    c.in_ok-write_label-in-IfToken.ensures second))
    c.write_tokened-in-IfToken.ensures

pub write_last-returns-in_ok-write_nodes-in-Case : goal.write_last-returns-in_ok-write_nodes-in-Case
write_last-returns-in_ok-write_nodes-in-Case t c =
    on_ok_weaker c.write_arms.result
    (λ bodies. cases_written (facts_of c.args.known.now) (variables_known c.args.known.now) (goal_of c.args.goal) c.args.last.now
    c.in-Case.variable c.in-Case.decisions c.in-Case.arms c.in_ok-targets-in-Case.targets
    c.nodes-nodes.result.now c.deref-in-Case.result.now c.len.result c.in-Case.is c.nodes-nodes.ensures
    c.deref-in-Case.ensures.value (omega (arith, c.len.ensures, c.in-Case.arms.ok.0))
    c.in_ok-targets-in-Case.ensures c.in_ok-write_nodes-in-Case.ensures bodies)
    c.write_arms.ensures

pub write_arms-loop-arm-preserved : goal.write_arms-loop-arm-preserved
write_arms-loop-arm-preserved t c = record {
  label = omega (arith, c.in_ok-here.ensures, c.loop-arm.invariant.label);
  wrote =
      subst (λ (each : List Tokened). WroteTokenedArms (facts_of c.args.known.now) (variables_known c.args.known.now) (goal_of
      c.args.goal)
      c.args.label each c.args.lowering.now c.write_tokened.new.lowering)
      (blocks_more c.args.arms.now c.loop-arm.arm-index c.arm-item.result c.loop-arm-test.true (sym c.arm-item.is))
      (arms_then (facts_of c.args.known.now) (variables_known c.args.known.now) (goal_of c.args.goal) c.args.label
      (map tokened_code (take c.loop-arm.arm-index c.args.arms.now)) (tokened_code c.arm-item.result)
      (c.loop-arm.invariant.label ∙ ap (λ n. c.args.label + n)
      (sym (length_mapped tokened_code c.args.arms.now c.loop-arm.arm-index c.loop-arm-test.true)))
      c.loop-arm.invariant.wrote c.in_ok-write_label.ensures c.in_ok-write_tokened.ensures);
}

pub write_branching-returns : goal.write_branching-returns
write_branching-returns t c =
    on_ok_weaker c.write_arms.result
    (λ bodies x. branches_given (facts_of c.args.known.now) (variables_known c.args.known.now) (goal_of c.args.goal) c.args.branch x
    c.args.decisions.now c.args.arms.now c.in_ok-targets.targets c.in_ok-negative.negative _ refl c.in_ok-targets.ensures
    c.in_ok-negative.ensures c.in_ok-write_branch.ensures bodies) c.write_arms.ensures

pub write_tokened-returns : goal.write_tokened-returns
write_tokened-returns t c =
    on_ok_weaker c.write_branching.result
    (λ behind. block_branches (facts_of c.args.known.now) (variables_known c.args.known.now) (goal_of c.args.goal) c.args.block.now
    c.deref.result.now c.split_at.result.0.now c.in-Some.before.now c.split_at.result.1.now c.in-Some.step.now
    c.in-Some-branch_between.branch c.in-Case.field-0 c.in-Case.decisions c.in-Case.arms c.deref-3.result.now c.deref.ensures.value
    c.split_at.ensures.by_index.0 c.in-Some.ensures.cases.0 (subst (λ (steps : List TokenedStep). AreNoLines (holds_known c.args.known.now) (map tokened_move steps))
    (ap (drop c.steps_with_lines.result) (c.deref-2.ensures.value ∙ sym c.deref.ensures.value) ∙ sym c.split_at.ensures.back)
    c.steps_with_lines.ensures.others) c.in-Some-branch_between.ensures
    c.in-Case.is c.deref-3.ensures.value c.in_ok-write_steps.ensures behind) c.write_branching.ensures

pub write_tokened-returns-2 : goal.write_tokened-returns-2
write_tokened-returns-2 t c =
    on_ok_weaker c.write_last.result
    (λ last. block_plain (facts_of c.args.known.now) (variables_known c.args.known.now) (goal_of c.args.goal) c.args.block.now
    c.deref-4.result.now c.deref-4.ensures.value c.in_ok-write_steps-2.ensures last) c.write_last.ensures
