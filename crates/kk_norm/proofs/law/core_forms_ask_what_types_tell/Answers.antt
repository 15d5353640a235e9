use Rattle.kk_norm.proofs.CodeDemands.{forms_ask}
use Rattle.kk_norm.proofs.law.core_forms_ask_what_types_tell.Goals as goal

pub returns : goal.returns
returns c = forms_ask
