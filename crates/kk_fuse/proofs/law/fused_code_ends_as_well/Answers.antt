use Rattle.kk_fuse.proofs.FusedWords.{fused_ends}
use Rattle.kk_fuse.proofs.law.fused_code_ends_as_well.Goals as goal

pub returns : goal.returns
returns c = fused_ends
