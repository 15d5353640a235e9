use Rattle.kk_middle.proofs.LentPrograms.{programs_lend_on}
use Rattle.kk_middle.proofs.law.tail_calls_of_core_forms_lend_on.Goals as goal

pub returns : goal.returns
returns c program code positions form told closed keeps = programs_lend_on program code positions told closed form keeps
