use Rattle.cell_heap.proofs.Blocks.{store-shows, store-holds}
use Rattle.cell_heap.proofs.laws.stores_keep_blocks.Goals as goal

pub returns : goal.returns
returns c = record {
  may = λ pool cells next links s at offset stored holds is. store-shows holds at offset stored next is;
  keeps = λ pool cells next links s t at offset stored holds same is fits there. store-holds holds same at offset stored next is fits there;
}
