use Rattle.kk_source.proofs.SafeRuns.{never_stuck}
use Rattle.kk_source.proofs.law.typed_programs_are_never_stuck.Goals as goal

pub returns : goal.returns
returns c = λ setting input typed. never_stuck setting typed input
