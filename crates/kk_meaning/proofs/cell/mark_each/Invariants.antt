use Rattle.std.proofs.Common.{take, map}
use Rattle.kk_meaning.specs.View.{value_view}
use Rattle.kk_meaning.specs.Marks.{Marked}
use Rattle.kk_meaning.proofs.cell.mark_each.Given as goal

abbrev pub invariant-loop-value : goal.invariant-loop-value
invariant-loop-value l = Marked l.fn.marks l.marks (map value_view (take l.value-index l.values))
