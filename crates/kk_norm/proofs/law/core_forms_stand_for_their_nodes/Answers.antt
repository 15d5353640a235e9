use Rattle.kk_norm.proofs.CodeWords.{core_stands}
use Rattle.kk_norm.proofs.law.core_forms_stand_for_their_nodes.Goals as goal

pub returns : goal.returns
returns c = core_stands
