use Rattle.rv_isa.specs.AsmCode.{asm_functions, asm_constants}
use Rattle.elf_image.specs.Program.{text_of}
use Rattle.std.proofs.Common.{length}
use Rattle.kk_back.proofs.InLineImages.{inlined_placeable, inlined_memory, inlined_text, inlined_image_of}
use Rattle.kk_back.proofs.assembled.assembled.Goals as goal

pub placed_image-requires-clause-placeable : goal.placed_image-requires-clause-placeable
placed_image-requires-clause-placeable c =
    inlined_placeable (asm_functions c.args.asm) (asm_functions c.in_ok-inlined.inlined) (asm_constants c.args.asm)
    (asm_constants c.in_ok-inlined.inlined) c.in_ok-inlined.ensures.functions c.in_ok-inlined.ensures.short
    c.in_ok-inlined.ensures.constants c.requires.placeable c.requires.room

pub returns : goal.returns
returns c =
    let q = asm_functions c.args.asm in
    let q' = asm_functions c.in_ok-inlined.inlined in
    let texts = asm_constants c.args.asm in
    let texts' = asm_constants c.in_ok-inlined.inlined in
    let parts = c.in_ok-image.image.parts in
    record {
      memory = inlined_memory q q' c.args.cells c.args.depth parts c.in_ok-inlined.ensures.functions c.in_ok-image.ensures.memory;
      text = inlined_text q q' texts texts' (length (text_of parts)) c.in_ok-inlined.ensures.functions c.in_ok-inlined.ensures.short
          c.in_ok-inlined.ensures.constants c.in_ok-image.ensures.text;
      does = inlined_image_of q q' texts texts' c.args.cells c.args.depth c.in_ok-image.image.entry parts
          c.in_ok-inlined.ensures.functions c.in_ok-inlined.ensures.constants c.in_ok-image.ensures.does;
    }
