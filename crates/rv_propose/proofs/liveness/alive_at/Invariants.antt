use Rattle.std.proofs.Common.{◌≡◌, [], drop}
use Rattle.rv_propose.specs.Tables.{last_at}
use Rattle.rv_propose.proofs.liveness.alive_at.Given as goal

abbrev pub invariant-loop-point : goal.invariant-loop-point
invariant-loop-point l = last_at l.label l.found (drop l.point-index l.points) ≡ last_at l.label [] l.points
