use Rattle.kk_base.proofs.Simulations.{simulates_passing}
use Rattle.kk_base.proofs.simulation.every_state_is_passing.Goals as goal

pub returns : goal.returns
returns g c = λ upper lower. simulates_passing upper lower g.L.Layers.related g.L.Layers.passing
