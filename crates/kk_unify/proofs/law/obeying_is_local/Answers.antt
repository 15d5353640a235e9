use Rattle.kk_unify.proofs.GraphAssignments.{obeying_is_local}
use Rattle.kk_unify.proofs.law.obeying_is_local.Goals as goal

pub returns : goal.returns
returns c = obeying_is_local
