use Rattle.std.proofs.Common.{◌≡◌, ◌+◌, ◌-◌, length}
use Rattle.rv_cells.specs.Marking.{marked}
use Rattle.rv_cells.proofs.mark.set_mark.Given as goal

abbrev pub invariant-loop-marks : goal.invariant-loop-marks
invariant-loop-marks l = marked l.variable l.mark l.marks.items ≡ marked l.variable l.mark l.fn.marks.items

abbrev pub decreases-loop-marks : goal.decreases-loop-marks
decreases-loop-marks l = l.index + 1 - length l.marks.items
