use Rattle.std.proofs.Common.{map, take, sym, subst}
use Rattle.kk_meaning.specs.View.{value_view}
use Rattle.kk_meaning.specs.Marks.{Marked}
use Rattle.kk_meaning.proofs.Marks.{marked_more, taken_one}
use Rattle.kk_meaning.proofs.cell.mark_each.Goals as goal

pub loop-value-preserved : goal.loop-value-preserved
loop-value-preserved c =
    subst (Marked c.args.marks.now c.mark.new.marks) (sym (taken_one value_view c.args.values.now c.loop-value.value-index _ c.loop-value-test.true))
    (marked_more c.args.marks.now c.loop-value.marks c.mark.new.marks (map value_view (take c.loop-value.value-index c.args.values.now)) _ c.loop-value.auto.marks c.loop-value.invariant c.mark.ensures)
