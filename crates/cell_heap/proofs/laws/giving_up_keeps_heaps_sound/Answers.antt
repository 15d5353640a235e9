use Rattle.cell_heap.proofs.SoundHeaps.{sound-kept}
use Rattle.cell_heap.proofs.laws.giving_up_keeps_heaps_sound.Goals as goal

pub returns : goal.returns
returns c = λ pool roots given heap end gave freed sound gives. sound-kept sound end gave freed gives
