use Rattle.std.proofs.Common.{◌≤◌, ℕ, drop}
use Rattle.rv_isa.specs.ValueBounds.{AreValuesBelow}
use Rattle.rv_regs.proofs.modest.values_behind.Given as goal

abbrev pub invariant-loop-value : goal.invariant-loop-value
invariant-loop-value l =
    (limit : ℕ) → l.most ≤ limit → AreValuesBelow limit l.values
    → (l.greatest ≤ limit) × AreValuesBelow limit (drop l.value-index l.values)
