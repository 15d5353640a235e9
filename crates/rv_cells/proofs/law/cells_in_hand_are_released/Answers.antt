use Rattle.rv_cells.proofs.Counts.{released}
use Rattle.rv_cells.proofs.law.cells_in_hand_are_released.Goals as goal

pub returns : goal.returns
returns c = λ pool layout address owners heap cells follows at words is. released follows at words is
