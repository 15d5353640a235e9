use Rattle.std.proofs.Common.{◌≡◌, drop}
use Rattle.rv_regs.specs.Plain.{copy_in}
use Rattle.rv_regs.proofs.slots.copy_of.Given as goal

abbrev pub invariant-loop-other : goal.invariant-loop-other
invariant-loop-other l = copy_in (drop l.other-index l.copied) l.value ≡ copy_in l.copied l.value
