use Rattle.kk_reuse.proofs.Lengths.{program_short}
use Rattle.kk_reuse.proofs.law.paired_code_is_short.Goals as goal

pub returns : goal.returns
returns c = program_short
