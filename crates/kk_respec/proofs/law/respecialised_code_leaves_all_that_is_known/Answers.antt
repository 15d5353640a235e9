use Rattle.kk_respec.proofs.AllKnown.{program_leaves_all}
use Rattle.kk_respec.proofs.law.respecialised_code_leaves_all_that_is_known.Goals as goal

pub returns : goal.returns
returns c = program_leaves_all
