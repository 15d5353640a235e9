use Rattle.kk_source.proofs.Laws.{runs_are_sound, live_is_reached}
use Rattle.kk_source.proofs.law.runs_are_sound.Goals as goal

pub returns : goal.returns
returns c = record { sound = runs_are_sound; live = live_is_reached }
