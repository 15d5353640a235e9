use Rattle.std.proofs.Common.{◌≡◌, drop}
use Rattle.rv_regs.specs.Plain.{place_in}
use Rattle.rv_regs.proofs.slots.place_of.Given as goal

abbrev pub invariant-loop-other : goal.invariant-loop-other
invariant-loop-other l = place_in (drop l.other-index l.loaded) l.value ≡ place_in l.loaded l.value
