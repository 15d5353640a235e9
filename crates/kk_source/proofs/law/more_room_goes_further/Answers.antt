use Rattle.kk_source.proofs.Laws.{longer_trace, same_with_room}
use Rattle.kk_source.proofs.law.more_room_goes_further.Goals as goal

pub returns : goal.returns
returns c = record { prefix = longer_trace; same = same_with_room }
