use Rattle.std.proofs.Common.{length, ap, sym, ◌∙◌, arith}
use Rattle.std.proofs.lemmas.List.{length-drop}
use Rattle.elf_image.proofs.SegmentLists.{behind-header, gathered, passed_over}
use Rattle.elf_image.proofs.segments.read_loads.Goals as goal
use Rattle.elf_image.proofs.segments.read_loads.Goals.{then-is_load+in_ok-push, else-is_load}

pub loop-preserved : goal.loop-preserved
loop-preserved c =
    let behind = behind-header c.loop.rest.now c.from.result c.from.ensures in
    record {
      room = let lt = c.loop-test.true in let room = c.loop.invariant.room in omega (arith, ap length behind, length-drop 32 c.loop.rest.now, lt, room);
      whole = elim c.if-is_load.branch [
        | then-is_load+in_ok-push w ↦ gathered c.args.count c.loop.counter c.loop.loads.items c.if-is_load.loads.items _ c.loop.rest.now _ c.read-header.result c.loop-test.true behind c.read-header.ensures (sym c.is_load.ensures ∙ w.if-is_load.true) (ap (λ v. v.items) w.loads-is ∙ w.in_ok-push.ensures.items) c.loop.invariant.whole
        | else-is_load w ↦ passed_over c.args.count c.loop.counter c.loop.loads.items c.if-is_load.loads.items _ c.loop.rest.now _ c.read-header.result c.loop-test.true behind c.read-header.ensures (sym c.is_load.ensures ∙ w.if-is_load.false) (ap (λ v. v.items) w.loads-is) c.loop.invariant.whole
      ];
    }
