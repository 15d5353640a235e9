use Rattle.rv_cells.proofs.UsedCells.{busy_most}
use Rattle.rv_cells.proofs.law.cells_are_counted_or_set_aside.Goals as goal

pub returns : goal.returns
returns c = λ pool layout address owners heap cells aligned follows. busy_most aligned follows
