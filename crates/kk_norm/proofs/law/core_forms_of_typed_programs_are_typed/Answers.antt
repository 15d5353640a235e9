use Rattle.kk_norm.proofs.ProgramTyping.{core_form_typed}
use Rattle.kk_norm.proofs.law.core_forms_of_typed_programs_are_typed.Goals as goal

pub returns : goal.returns
returns c = core_form_typed
