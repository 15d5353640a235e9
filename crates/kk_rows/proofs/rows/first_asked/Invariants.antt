use Rattle.std.proofs.Common.{◌≡◌, drop, map}
use Rattle.kk_slots.specs.Problems.{row_view, first_asked}
use Rattle.kk_rows.proofs.rows.first_asked.Given as goal

abbrev pub invariant-loop-row : goal.invariant-loop-row
invariant-loop-row l = first_asked (map (λ row. row_view row.items) (drop l.row-index l.rows)) ≡ first_asked (map (λ row. row_view row.items) l.rows)
