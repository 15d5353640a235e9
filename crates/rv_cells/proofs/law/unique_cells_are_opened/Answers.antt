use Rattle.rv_cells.proofs.Words.{opened_unique}
use Rattle.rv_cells.proofs.law.unique_cells_are_opened.Goals as goal

pub returns : goal.returns
returns c = λ pool layout address owners heap cells follows name words once is. opened_unique follows name words once is
