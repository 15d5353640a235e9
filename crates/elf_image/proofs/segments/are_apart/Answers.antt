use Rattle.elf_image.proofs.SegmentLists.{apart_goes_on, apart_ends}
use Rattle.elf_image.proofs.segments.are_apart.Goals as goal

pub returns-then-overlaps_any : goal.returns-then-overlaps_any
returns-then-overlaps_any c =
    apart_ends c.args.segments.now c.loop-i.i _ c.overlaps_any.result c.loop-i-test.true c.overlaps_any.ensures c.if-overlaps_any.true c.loop-i.invariant

pub loop-i-preserved : goal.loop-i-preserved
loop-i-preserved c =
    apart_goes_on c.args.segments.now c.loop-i.i _ c.overlaps_any.result c.loop-i-test.true c.overlaps_any.ensures c.if-overlaps_any.false c.loop-i.invariant
