use Rattle.std.proofs.Common.{◌≤◌, ◌-◌, ◌<◌, ℕ, pos, length, map}
use Rattle.kk_syntax.specs.Covered.{Each}
use Rattle.kk_slots.specs.Problems.{row_view, LacksNumber}
use Rattle.kk_rows.proofs.rows.least_number.Given as goal

abbrev pub invariant-loop-count : goal.invariant-loop-count
invariant-loop-count l = record {
  within : l.count ≤ length l.rows;
  asked : (less : ℕ) → less < l.count → Each (LacksNumber (pos less)) (map (λ row. row_view row.items) l.rows) → ⊥;
}

abbrev pub decreases-loop-count : goal.decreases-loop-count
decreases-loop-count l = length l.rows - l.count
