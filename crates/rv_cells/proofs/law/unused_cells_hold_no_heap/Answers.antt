use Rattle.rv_cells.proofs.StartHeap.{starts}
use Rattle.rv_cells.proofs.law.unused_cells_hold_no_heap.Goals as goal

pub returns : goal.returns
returns c = λ pool layout address aligned. starts pool layout address aligned
