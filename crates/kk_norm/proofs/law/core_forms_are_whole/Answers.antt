use Rattle.kk_norm.proofs.FormInduction.{are_whole}
use Rattle.kk_norm.proofs.law.core_forms_are_whole.Goals as goal

pub returns : goal.returns
returns c = are_whole
