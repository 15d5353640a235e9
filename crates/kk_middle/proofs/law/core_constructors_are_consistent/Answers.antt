use Rattle.kk_middle.proofs.ConstructorConsistency.{are_consistent}
use Rattle.kk_middle.proofs.law.core_constructors_are_consistent.Goals as goal

pub returns : goal.returns
returns c = are_consistent
