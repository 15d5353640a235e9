use Rattle.std.proofs.Common.{◌≡◌, drop}
use Rattle.rv_isa.specs.Conventions.{take_from}
use Rattle.rv_regs.proofs.conventions.takes_all.Given as goal

abbrev pub invariant-loop-index : goal.invariant-loop-index
invariant-loop-index l = take_from l.action l.index (drop l.index l.args) ≡ take_from l.action 0 l.args
