use Rattle.cell_heap.proofs.SoundHeaps.{sound-gives}
use Rattle.cell_heap.proofs.laws.giving_up_comes_to_an_end.Goals as goal

pub returns : goal.returns
returns c = λ pool roots given heap sound. sound-gives sound
