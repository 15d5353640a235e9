use Rattle.kk_counted.proofs.Functions.{counted_is_sound}
use Rattle.kk_counted.proofs.SoundRuns.{sound_heap_is, openings_are_alike}
use Rattle.kk_counted.proofs.law.sound_heaps_are_functions.Goals as goal

pub returns : goal.returns
returns c = record { function = sound_heap_is; sound = counted_is_sound; openings = openings_are_alike }
