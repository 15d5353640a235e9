use Rattle.cell_heap.proofs.Blocks.{load-shows}
use Rattle.cell_heap.proofs.laws.loads_are_in_memory.Goals as goal

pub returns : goal.returns
returns c = λ pool cells links s at offset loaded holds is. load-shows holds at offset loaded is
