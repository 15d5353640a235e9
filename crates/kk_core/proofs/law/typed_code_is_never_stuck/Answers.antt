use Rattle.kk_core.proofs.SafeRuns.{never_stuck}
use Rattle.kk_core.proofs.law.typed_code_is_never_stuck.Goals as goal

pub returns : goal.returns
returns c = λ table setting weight input typed. never_stuck table setting typed weight input
