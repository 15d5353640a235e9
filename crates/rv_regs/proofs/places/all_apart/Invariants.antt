use Rattle.std.proofs.Common.{◌↔◌, drop}
use Rattle.rv_regs.specs.Conditions.{Apart}
use Rattle.rv_regs.proofs.places.all_apart.Given as goal

abbrev pub invariant-loop-index : goal.invariant-loop-index
invariant-loop-index l = Apart (drop l.index l.alive) ↔ Apart l.alive
