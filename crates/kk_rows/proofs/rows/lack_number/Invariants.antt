use Rattle.std.proofs.Common.{drop, map}
use Rattle.kk_syntax.specs.Covered.{Each}
use Rattle.kk_slots.specs.Problems.{row_view, LacksNumber}
use Rattle.kk_rows.proofs.rows.lack_number.Given as goal

abbrev pub invariant-loop-row : goal.invariant-loop-row
invariant-loop-row l = record {
  from : Each (LacksNumber l.number) (map (λ row. row_view row.items) (drop l.row-index l.rows)) → Each (LacksNumber l.number) (map (λ row. row_view row.items) l.rows);
  to : Each (LacksNumber l.number) (map (λ row. row_view row.items) l.rows) → Each (LacksNumber l.number) (map (λ row. row_view row.items) (drop l.row-index l.rows));
}
