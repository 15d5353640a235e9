use Rattle.std.proofs.Common.{◌≡◌, ◌++◌, drop, map}
use Rattle.kk_slots.specs.Narrowing.{narrowed}
use Rattle.kk_slots.specs.Problems.{row_view}
use Rattle.kk_rows.proofs.rows.narrowed.Given as goal

abbrev pub invariant-loop-row : goal.invariant-loop-row
invariant-loop-row l =
    map (λ row. row_view row.items) l.left.items ++ narrowed l.constructor l.arity (map (λ row. row_view row.items) (drop l.row-index l.rows))
    ≡ narrowed l.constructor l.arity (map (λ row. row_view row.items) l.rows)
