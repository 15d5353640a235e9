use Rattle.std.proofs.Common.{◌≡◌, ◌+◌, drop}
use Rattle.kk_slots.specs.Problems.{row_view}
use Rattle.kk_slots.specs.Turned.{leading}
use Rattle.kk_rows.proofs.turning.leading.Given as goal

abbrev pub invariant-loop-slot : goal.invariant-loop-slot
invariant-loop-slot l = record {
  count : l.count ≡ l.slot-index;
  same : leading (row_view l.row) ≡ l.count + leading (row_view (drop l.slot-index l.row));
}
