use Rattle.std.proofs.Common.{map, ◌≤◌, length}
use Rattle.kk_meaning.specs.View.{value_view, cell_view}
use Rattle.kk_meaning.proofs.Marks.{Passed}
use Rattle.kk_meaning.proofs.cell.mark_live.Given as goal

abbrev pub invariant-loop-left : goal.invariant-loop-left
invariant-loop-left l = record {
  passed : Passed (map cell_view l.store) (map value_view l.held) l.marks l.left;
  within : l.left ≤ length l.store;
}

abbrev pub decreases-loop-left : goal.decreases-loop-left
decreases-loop-left l = l.left
