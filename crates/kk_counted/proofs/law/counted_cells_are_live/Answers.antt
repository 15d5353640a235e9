use Rattle.kk_counted.proofs.Places.{counted_is_reached, counted_are_live}
use Rattle.kk_counted.proofs.law.counted_cells_are_live.Goals as goal

pub returns : goal.returns
returns c = record { reached = counted_is_reached; number = counted_are_live }
