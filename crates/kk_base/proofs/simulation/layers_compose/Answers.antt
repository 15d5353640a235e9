use Rattle.kk_base.proofs.Simulations.{simulates_through}
use Rattle.kk_base.proofs.simulation.layers_compose.Goals as goal

pub returns : goal.returns
returns g c =
    let l = g.L.Layers in
    λ upper lower lowest. simulates_through upper lower lowest l.related l.lowest_related l.passing l.lowest_passing
