use Rattle.kk_fuse.proofs.NoPairs.{program_pairless}
use Rattle.kk_fuse.proofs.law.fused_code_has_no_pair_left.Goals as goal

pub returns : goal.returns
returns c = program_pairless
