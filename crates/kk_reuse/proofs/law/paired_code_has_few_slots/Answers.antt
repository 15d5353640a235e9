use Rattle.kk_reuse.proofs.Lowerability.{program_slots}
use Rattle.kk_reuse.proofs.law.paired_code_has_few_slots.Goals as goal

pub returns : goal.returns
returns c = program_slots
