use Rattle.kk_core.proofs.CodeDemands.{has_kinds}
use Rattle.kk_core.proofs.law.typed_code_has_its_kinds.Goals as goal

pub returns : goal.returns
returns c = λ table setting weight input typed all. has_kinds table setting typed all weight input
