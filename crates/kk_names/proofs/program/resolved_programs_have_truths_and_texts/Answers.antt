use Rattle.kk_names.proofs.Texts.{resolved_programs_have_truths_and_texts}
use Rattle.kk_names.proofs.program.resolved_programs_have_truths_and_texts.Goals as goal

pub returns : goal.returns
returns c = resolved_programs_have_truths_and_texts
