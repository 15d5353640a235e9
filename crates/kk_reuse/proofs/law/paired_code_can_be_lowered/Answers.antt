use Rattle.kk_reuse.proofs.Lowerability.{program_low}
use Rattle.kk_reuse.proofs.law.paired_code_can_be_lowered.Goals as goal

pub returns : goal.returns
returns c = program_low
