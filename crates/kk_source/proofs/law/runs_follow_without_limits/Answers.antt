use Rattle.kk_source.proofs.WithoutLimits.{goes_on, ends_so, never_full}
use Rattle.kk_source.proofs.law.runs_follow_without_limits.Goals as goal

pub returns : goal.returns
returns c = record { prefix = goes_on; whole = ends_so; room = never_full }
