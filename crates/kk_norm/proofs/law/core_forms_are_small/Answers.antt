use Rattle.kk_norm.proofs.Forms.{is_small}
use Rattle.kk_norm.proofs.law.core_forms_are_small.Goals as goal

pub returns : goal.returns
returns c = is_small
