use Rattle.std.proofs.Common.{ap, ◌∙◌, arith}
use Rattle.rv_cells.specs.Marking.{marked}
use Rattle.rv_cells.proofs.Marks.{marked_longer, marked_set}
use Rattle.rv_cells.proofs.mark.set_mark.Goals as goal

pub loop-marks-preserved : goal.loop-marks-preserved
loop-marks-preserved c =
    ap (marked c.args.variable c.args.mark) c.in_ok-push.ensures.items
    ∙ marked_longer c.args.variable c.args.mark c.loop-marks.marks.items (omega (arith, c.loop-marks-test.true, c.len.ensures))
    ∙ c.loop-marks.invariant

pub returns : goal.returns
returns c =
    marked_set c.args.variable c.args.mark c.loop-marks.marks.items (omega (arith, c.loop-marks-test.false, c.len.ensures))
    ∙ c.loop-marks.invariant
