use Rattle.kk_perform.proofs.Rows.{image_written, image_unwritten, image_left}
use Rattle.kk_perform.proofs.perform.build_file.Goals as goal

pub returns-in-Done : goal.returns-in-Done
returns-in-Done g c = λ input output.
    image_written _ _ c.in-Ok.ensures.kept _ _ c.args.file.now c.args.sizes.cells c.args.sizes.depth c.in-Ok.ensures.built _ input output c.args.out.now c.as_slice.result.now _ c.as_slice.ensures c.in-Done.ensures.content c.in-Done.ensures.faults c.in-Done.ensures.named

pub returns-in-Failed : goal.returns-in-Failed
returns-in-Failed g c = λ input output.
    image_unwritten _ _ c.in-Ok.ensures.kept _ _ c.args.file.now c.args.sizes.cells c.args.sizes.depth c.in-Ok.ensures.built _ input output c.args.out c.in-Failed.ensures.content c.in-Failed.ensures.faults c.in-Failed.ensures.named

pub returns-in-NoMemory : goal.returns-in-NoMemory
returns-in-NoMemory g c = λ input output.
    image_left _ _ c.in-Ok.ensures.kept _ _ c.args.file.now c.args.sizes.cells c.args.sizes.depth c.in-Ok.ensures.built _ input output c.args.out.now _ c.in-NoMemory.ensures.content c.in-NoMemory.ensures.faults c.in-NoMemory.ensures.named
