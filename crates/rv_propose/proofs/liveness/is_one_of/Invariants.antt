use Rattle.std.proofs.Common.{◌≡◌, drop}
use Rattle.rv_isa.specs.Frames.{is_among}
use Rattle.rv_propose.proofs.liveness.is_one_of.Given as goal

abbrev pub invariant-loop-other : goal.invariant-loop-other
invariant-loop-other l = is_among l.value (drop l.other-index l.values) ≡ is_among l.value l.values
