use Rattle.kk_fuse.proofs.Openings.{all_by_count}
use Rattle.kk_fuse.proofs.law.fused_code_opens_by_count.Goals as goal

pub returns : goal.returns
returns c = all_by_count
