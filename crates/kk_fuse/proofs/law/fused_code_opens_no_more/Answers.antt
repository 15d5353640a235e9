use Rattle.kk_fuse.proofs.Openings.{fused_opens}
use Rattle.kk_fuse.proofs.law.fused_code_opens_no_more.Goals as goal

pub returns : goal.returns
returns c = fused_opens
