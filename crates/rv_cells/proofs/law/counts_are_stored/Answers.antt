use Rattle.rv_cells.proofs.Words.{recount}
use Rattle.rv_cells.proofs.law.counts_are_stored.Goals as goal

pub returns : goal.returns
returns c = λ pool layout address owners heap cells follows name count words some is. recount follows name count words some is
