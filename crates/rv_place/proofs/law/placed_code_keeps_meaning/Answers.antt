-- The law is the simulation of the lines.
use Rattle.rv_place.proofs.ProcessorSimulation.{simulates}
use Rattle.rv_place.proofs.law.placed_code_keeps_meaning.Goals as goal

pub returns : goal.returns
returns c = λ map pool functions depth buffer stop code parts ground plain. simulates ground plain
