use Rattle.kk_insert.proofs.Simulation.{finds_as_many}
use Rattle.kk_insert.proofs.law.counted_cells_are_the_live_places.Goals as goal

pub returns : goal.returns
returns c = finds_as_many
