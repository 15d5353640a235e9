use Rattle.kk_norm.proofs.TypedPreservation.{typed_keeps_meaning}
use Rattle.kk_norm.proofs.law.core_forms_of_typed_programs_keep_meaning.Goals as goal

pub returns : goal.returns
returns c = typed_keeps_meaning
