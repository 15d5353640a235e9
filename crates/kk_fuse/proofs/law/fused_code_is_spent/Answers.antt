use Rattle.kk_dropspec.proofs.ChangedFunctions.{is_spent}
use Rattle.kk_fuse.specs.Fused.{fuse}
use Rattle.kk_fuse.proofs.Spending.{spends_parameters}
use Rattle.kk_fuse.proofs.law.fused_code_is_spent.Goals as goal

pub returns : goal.returns
returns c = is_spent fuse spends_parameters
