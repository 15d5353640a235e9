use Rattle.std.proofs.Common.{◌≡◌, ◌≤◌}
use Rattle.kk_source.specs.Live.{counted}
use Rattle.kk_meaning.specs.Marks.{is_marked}
use Rattle.kk_meaning.proofs.cell.count.Given as goal

abbrev pub invariant-loop-mark : goal.invariant-loop-mark
invariant-loop-mark l = (l.count ≡ counted (is_marked l.marks) l.mark-index) × (l.count ≤ l.mark-index)
