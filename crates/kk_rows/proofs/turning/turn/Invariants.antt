use Rattle.std.proofs.Common.{◌≡◌, map, take, vec_len}
use Rattle.kk_slots.specs.Problems.{row_view}
use Rattle.kk_slots.specs.Turned.{rotated}
use Rattle.kk_rows.proofs.turning.turn.Given as goal

abbrev pub invariant-loop-row : goal.invariant-loop-row
invariant-loop-row l = record {
  view : map (λ row. row_view row.items) l.rows.items ≡ map (rotated l.count) (map (λ row. row_view row.items) (take l.row-index l.problem.rows.items));
  count : vec_len l.rows ≡ l.row-index;
}
