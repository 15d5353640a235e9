use Rattle.kk_eval.proofs.Evaluations.{has_run}
use Rattle.kk_perform.proofs.perform.run_accepted.Goals as goal

pub returns : goal.returns
returns g c = has_run _ _ _ c.args.steps _ _ c.evaluate.result _ _ _ _ c.in_ok-meaning.ensures.setting c.in_ok-meaning.ensures.start c.evaluate.ensures.ran c.evaluate.ensures.input_faults c.evaluate.ensures.output_faults
