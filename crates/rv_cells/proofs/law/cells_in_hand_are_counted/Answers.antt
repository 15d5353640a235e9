use Rattle.rv_cells.proofs.Words.{built}
use Rattle.rv_cells.proofs.law.cells_in_hand_are_counted.Goals as goal

pub returns : goal.returns
returns c = λ pool layout address owners heap cells follows at words cell is older within shows.
    built follows at words cell is older within shows
