use Rattle.std.proofs.Common.{◌≤◌, ℕ, drop}
use Rattle.rv_isa.specs.ValueBounds.{AreValuesBelow}
use Rattle.rv_inline.proofs.counting.values_behind.Given as goal

abbrev pub invariant-loop-value : goal.invariant-loop-value
invariant-loop-value l = record {
  above : l.most ≤ l.greatest;
  below : (limit : ℕ) → l.greatest ≤ limit → AreValuesBelow limit (drop l.value-index l.values) → AreValuesBelow limit l.values;
  least : (limit : ℕ) → l.most ≤ limit → AreValuesBelow limit l.values
      → (l.greatest ≤ limit) × AreValuesBelow limit (drop l.value-index l.values);
}
