use Rattle.kk_fuse.proofs.Lowerability.{fused_marked, fused_are, fused_spends, fused_variables}
use Rattle.kk_fuse.proofs.FusedLengths.{fused_short}
use Rattle.kk_fuse.proofs.law.fused_code_can_be_lowered.Goals as goal

pub returns : goal.returns
returns c = record {
  marked = fused_marked;
  lowerable = fused_are;
  little = fused_spends;
  short = fused_short;
  variables = fused_variables;
}
