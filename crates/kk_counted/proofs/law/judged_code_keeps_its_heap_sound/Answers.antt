use Rattle.kk_counted.proofs.SoundRuns.{keeps_sound}
use Rattle.kk_counted.proofs.law.judged_code_keeps_its_heap_sound.Goals as goal

pub returns : goal.returns
returns c = keeps_sound
