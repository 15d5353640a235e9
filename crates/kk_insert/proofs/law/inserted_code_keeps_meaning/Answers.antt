use Rattle.kk_insert.proofs.Simulation.{keeps_meaning}
use Rattle.kk_insert.proofs.law.inserted_code_keeps_meaning.Goals as goal

pub returns : goal.returns
returns c = keeps_meaning
