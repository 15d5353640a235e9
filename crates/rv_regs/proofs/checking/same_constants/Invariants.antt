use Rattle.std.proofs.Common.{◌≡◌, ◌↔◌, drop}
use Rattle.rv_regs.proofs.checking.same_constants.Given as goal

abbrev pub invariant-loop-index : goal.invariant-loop-index
invariant-loop-index l = (drop l.index l.a ≡ drop l.index l.b) ↔ (l.a ≡ l.b)
