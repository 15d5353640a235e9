use Rattle.std.proofs.Common.{◌≤◌, ℕ, drop, map}
use Rattle.rv_isa.specs.AsmCode.{line_of}
use Rattle.rv_isa.specs.ValueBounds.{AreLinesBelow}
use Rattle.rv_inline.proofs.counting.lines_behind.Given as goal

abbrev pub invariant-loop-statement : goal.invariant-loop-statement
invariant-loop-statement l = record {
  above : l.most ≤ l.greatest;
  below : (limit : ℕ) → l.greatest ≤ limit → AreLinesBelow limit (map line_of (drop l.statement-index l.code))
      → AreLinesBelow limit (map line_of l.code);
  least : (limit : ℕ) → l.most ≤ limit → AreLinesBelow limit (map line_of l.code)
      → (l.greatest ≤ limit) × AreLinesBelow limit (map line_of (drop l.statement-index l.code));
}
