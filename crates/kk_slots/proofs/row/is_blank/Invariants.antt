use Rattle.std.proofs.Common.{◌≡◌, drop}
use Rattle.kk_slots.specs.Problems.{row_view, is_blank}
use Rattle.kk_slots.proofs.row.is_blank.Given as goal

abbrev pub invariant-loop-slot : goal.invariant-loop-slot
invariant-loop-slot l = is_blank (row_view (drop l.slot-index l.row)) ≡ is_blank (row_view l.row)
