use Rattle.std.proofs.Common.{◌≡◌, drop, map}
use Rattle.kk_slots.specs.Problems.{row_view, has_constructor}
use Rattle.kk_rows.proofs.rows.has_constructor.Given as goal

abbrev pub invariant-loop-row : goal.invariant-loop-row
invariant-loop-row l = has_constructor l.constructor (map (λ row. row_view row.items) (drop l.row-index l.rows)) ≡ has_constructor l.constructor (map (λ row. row_view row.items) l.rows)
