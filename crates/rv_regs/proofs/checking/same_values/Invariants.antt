use Rattle.std.proofs.Common.{◌≡◌, ◌↔◌, drop, map}
use Rattle.rv_regs.specs.Conditions.{value_of}
use Rattle.rv_regs.proofs.checking.same_values.Given as goal

abbrev pub invariant-loop-index : goal.invariant-loop-index
invariant-loop-index l =
    (map value_of (drop l.index l.operands) ≡ drop l.index l.values) ↔ (map value_of l.operands ≡ l.values)
