use Rattle.kk_base.proofs.Simulations.{simulates_mapped}
use Rattle.kk_base.proofs.simulation.seen_machines_simulate.Goals as goal

pub returns : goal.returns
returns g c = λ upper lower pace events ending. simulates_mapped events ending upper lower g.L.Layers.related g.L.Layers.passing pace
