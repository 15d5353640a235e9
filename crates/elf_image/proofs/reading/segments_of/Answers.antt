use Rattle.std.proofs.Common.{◌∙◌}
use Rattle.elf_image.proofs.Conditions.{inside_tells, fails_inside, segments_are}
use Rattle.elf_image.proofs.reading.segments_of.Goals as goal

pub returns-then-not-are_inside-clause-err : goal.returns-then-not-are_inside-clause-err
returns-then-not-are_inside-clause-err c =
    let inside = inside_tells c.args.bytes.now c.in_ok-loads.loads.items c.deref.result.now c.are_inside.result c.in_ok-loads.ensures.ok c.deref.ensures.value c.are_inside.ensures in
    fails_inside c.args.bytes.now c.args.header.now c.in_ok-loads.loads.items c.requires c.in_ok-loads.ensures.ok (inside ∙ c.if-not-are_inside.true)

pub returns-clause-ok : goal.returns-clause-ok
returns-clause-ok c =
    let inside = inside_tells c.args.bytes.now c.in_ok-loads.loads.items c.deref.result.now c.are_inside.result c.in_ok-loads.ensures.ok c.deref.ensures.value c.are_inside.ensures in
    segments_are c.args.bytes.now c.in_ok-loads.loads.items c.deref-2.result.now _ c.in_ok-loads.ensures.ok (inside ∙ c.if-not-are_inside.false) c.deref-2.ensures.value c.in_ok-without_empty.ensures
