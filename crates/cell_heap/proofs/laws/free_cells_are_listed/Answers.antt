use Rattle.cell_heap.proofs.FreeCells.{free_list-lists}
use Rattle.cell_heap.proofs.laws.free_cells_are_listed.Goals as goal

pub returns : goal.returns
returns c = free_list-lists
