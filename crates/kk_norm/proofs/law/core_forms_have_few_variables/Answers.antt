use Rattle.kk_norm.proofs.Forms.{few_variables}
use Rattle.kk_norm.proofs.law.core_forms_have_few_variables.Goals as goal

pub returns : goal.returns
returns c = few_variables
