use Rattle.std.proofs.Common.{◌≡◌, drop, map}
use Rattle.kk_slots.specs.Problems.{row_view, has_blank}
use Rattle.kk_rows.proofs.rows.has_blank.Given as goal

abbrev pub invariant-loop-row : goal.invariant-loop-row
invariant-loop-row l = has_blank (map (λ row. row_view row.items) (drop l.row-index l.rows)) ≡ has_blank (map (λ row. row_view row.items) l.rows)
