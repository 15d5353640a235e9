use Rattle.std.proofs.Common.{◌-◌, refl, ◌∙◌, arith, rules}
use Rattle.std.proofs.lemmas.Result.{err_from_is_err_and}
use Rattle.kk_eval.proofs.EvaluationSteps.{gone_none, gone_on, gone_same, gone_ends, gone_stops}
use Rattle.kk_eval.proofs.evaluation.evaluate.Goals as goal

pub loop-left-init : goal.loop-left-init
loop-left-init g c = record {
  within = omega arith;
  setting = refl;
  gone = gone_same _ 0 (c.args.steps - c.args.steps) _ _ _ _ _ _ (omega arith) (gone_none _ _ _ _ c.requires.going);
  input_stays = refl;
  output_stays = refl;
}

pub loop-left-preserved : goal.loop-left-preserved
loop-left-preserved g c =
    record {
      within = omega arith;
      setting = c.turn.ensures.setting ∙ c.loop-left.invariant.setting;
      gone = gone_on _ _ (c.args.steps - c.loop-left.left) (c.args.steps - (c.loop-left.left - 1)) _ _ _ _ _ _ _ _ _ c.in_ok-turn.field-0 c.in-None.is c.loop-left.invariant.setting (omega arith)
          c.loop-left.invariant.gone c.in_ok-turn.ensures.ran;
      input_stays = search rules;
      output_stays = search rules;
    }

pub returns-in_err-turn-clause-ran : goal.returns-in_err-turn-clause-ran
returns-in_err-turn-clause-ran g c =
    let p = err_from_is_err_and c.from_residual.result c.from_residual.ensures.1 in
    rw (p.1) (gone_stops _ _ (c.args.steps - c.loop-left.left) c.args.steps _ _ _ _ _ _ _ _ _ _ c.loop-left.invariant.setting (λ same. cc) (omega arith) c.loop-left.invariant.gone c.in_err-turn.ensures.ran)

pub returns-in-Some-clause-ran : goal.returns-in-Some-clause-ran
returns-in-Some-clause-ran g c =
    gone_ends _ _ (c.args.steps - c.loop-left.left) c.args.steps _ _ _ _ _ _ _ _ _ c.in_ok-turn.field-0 c.in-Some.end c.in-Some.is c.loop-left.invariant.setting (omega arith) c.loop-left.invariant.gone c.in_ok-turn.ensures.ran
