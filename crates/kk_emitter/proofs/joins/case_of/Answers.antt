use Rattle.kk_counted.proofs.TokenedViews.{case_end}
use Rattle.kk_emitter.proofs.joins.case_of.Goals as goal

pub returns : goal.returns
returns c = case_end c.args.on c.args.tests c.args.arms
