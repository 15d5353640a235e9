use Rattle.kk_counted.proofs.Progress.{never_stuck}
use Rattle.kk_counted.proofs.law.judged_code_is_never_stuck.Goals as goal

pub returns : goal.returns
returns c = never_stuck
