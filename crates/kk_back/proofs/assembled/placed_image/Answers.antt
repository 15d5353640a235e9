use Rattle.std.proofs.Common.{◌≡◌, ◌+◌, ◌≤◌, ℕ, List, length, sym, subst, ◌∙◌, ap, arith}
use Rattle.rv_isa.specs.AsmCode.{Lines, asm_functions, asm_constants}
use Rattle.rv_isa.specs.PlacedCode.{placed_functions, placed_memory}
use Rattle.rv_isa.specs.Sizes.{wide_frame}
use Rattle.rv_isa.specs.declared.placed.DataSection.{DataSection}
use Rattle.rv_isa.specs.WellFormed.{most_values}
use Rattle.rv_isa.proofs.ValueBounds.{all_values_below}
use Rattle.elf_image.specs.Parts.{greatest_end}
use Rattle.elf_image.specs.Program.{greatest_text, memory_start, program_parts}
use Rattle.cell_runtime.specs.Texts.{IsText}
use Rattle.rv_isa.specs.FrameSizes.{frame_size}
use Rattle.kk_back.specs.Assembled.{IsAsmImage}
use Rattle.kk_back.proofs.ImageLayers.{looped_by, makes_of, placeable, few_slots, frames_small, fits, image_made, memory_of_image}
use Rattle.kk_back.proofs.ImageLayers.{text_of_image, same_some}
use Rattle.kk_back.proofs.FrameSizes.{slots_most}
use Rattle.kk_back.proofs.assembled.placed_image.Goals as goal

pub assign-requires : goal.assign-requires
assign-requires c = record { formed = c.requires.placeable.formed }

pub frame_bytes-requires : goal.frame_bytes-requires
frame_bytes-requires c =
    let few = slots_most most_values (placed_functions c.in_ok-program.program)
    (few_slots c.args.asm.now c.in_ok-placed.placed c.in_ok-program.program c.in_ok-placed.ensures.shape
    (record {
      rotated = c.in_ok-program.ensures.functions;
      short = c.in_ok-program.ensures.short;
      constants = c.in_ok-program.ensures.constants;
    }) most_values (all_values_below (asm_functions c.args.asm.now) c.requires.placeable.formed)) in
    omega (arith, few)

pub text-requires-clause-frame : goal.text-requires-clause-frame
text-requires-clause-frame c =
    let small : frame_size (placed_functions c.in_ok-program.program) ≤ wide_frame
    = frames_small c.args.asm.now c.in_ok-placed.placed c.in_ok-program.program c.requires.placeable.formed
    c.in_ok-placed.ensures.shape
    (looped_by c.in_ok-program.ensures.functions c.in_ok-program.ensures.short c.in_ok-program.ensures.constants) in
    let is : c.frame_bytes.result ≡ frame_size (placed_functions c.in_ok-program.program) = c.frame_bytes.ensures in
    omega (arith, small, is)

pub place-requires : goal.place-requires
place-requires c = record {
  placeable =
      placeable c.args.cells c.args.depth c.args.asm.now c.in_ok-placed.placed c.in_ok-program.program c.in_ok-runtime.runtime
      c.requires.placeable c.in_ok-placed.ensures.valid c.in_ok-placed.ensures.shape
      (looped_by c.in_ok-program.ensures.functions c.in_ok-program.ensures.short c.in_ok-program.ensures.constants)
      (subst (λ (frame : ℕ). IsText c.args.cells c.args.depth frame c.in_ok-runtime.runtime) c.frame_bytes.ensures c.in_ok-runtime.ensures) c.requires.sizes;
}

pub program-requires-clause-text_fits : goal.program-requires-clause-text_fits
program-requires-clause-text_fits c =
    subst (λ (text : List ℕ). length text ≤ greatest_text) (sym c.from_vec.ensures)
    (fits (makes_of {frame = c.frame_bytes.result} c.requires.sizes c.requires.placeable c.in_ok-placed.ensures.valid
    c.in_ok-placed.ensures.shape
    (looped_by c.in_ok-program.ensures.functions c.in_ok-program.ensures.short c.in_ok-program.ensures.constants)
    c.frame_bytes.ensures c.in_ok-runtime.ensures c.in_ok-words.ensures c.in_ok-bytes.ensures)).text_fits

pub program-requires-clause-memory_fits : goal.program-requires-clause-memory_fits
program-requires-clause-memory_fits c =
    subst (λ (section : DataSection). memory_start (length c.from_vec.result) + section.size ≤ greatest_end) (sym c.memory.ensures)
    (subst (λ (text : List ℕ). memory_start (length text) + (placed_memory c.in_ok-runtime.runtime).size ≤ greatest_end) (sym c.from_vec.ensures)
    (fits (makes_of {frame = c.frame_bytes.result} c.requires.sizes c.requires.placeable c.in_ok-placed.ensures.valid
    c.in_ok-placed.ensures.shape
    (looped_by c.in_ok-program.ensures.functions c.in_ok-program.ensures.short c.in_ok-program.ensures.constants)
    c.frame_bytes.ensures c.in_ok-runtime.ensures c.in_ok-words.ensures c.in_ok-bytes.ensures)).memory_fits)

pub returns : goal.returns
returns c =
    let parts_are = c.in_ok-image.ensures.parts ∙ ap (λ (section : DataSection). program_parts c.from_vec.result section.size)
    c.memory.ensures
    ∙ ap (λ (text : List ℕ). program_parts text (placed_memory c.in_ok-runtime.runtime).size) c.from_vec.ensures in
    let makes = makes_of {frame = c.frame_bytes.result} {asm = c.args.asm.now} c.requires.sizes c.requires.placeable
    c.in_ok-placed.ensures.valid c.in_ok-placed.ensures.shape
    (looped_by c.in_ok-program.ensures.functions c.in_ok-program.ensures.short c.in_ok-program.ensures.constants)
    c.frame_bytes.ensures c.in_ok-runtime.ensures c.in_ok-words.ensures c.in_ok-bytes.ensures in
    record {
      memory = memory_of_image makes c.in_ok-image.image.parts parts_are;
      text = text_of_image makes c.placed_text_takes_few_bytes.ensures c.in_ok-image.image.parts parts_are;
      does = λ main there.
          subst (λ (lines : Lines). IsAsmImage (asm_functions c.args.asm.now) (asm_constants c.args.asm.now) lines c.args.cells
          c.args.depth c.in_ok-image.image.entry c.in_ok-image.image.parts)
          (same_some c.requires.placeable.main main (sym c.requires.placeable.main_is ∙ there))
          (image_made {frame = c.frame_bytes.result} {asm = c.args.asm.now} c.requires.sizes c.requires.placeable
          c.in_ok-placed.ensures.valid c.in_ok-placed.ensures.shape
          (looped_by c.in_ok-program.ensures.functions c.in_ok-program.ensures.short c.in_ok-program.ensures.constants)
          c.frame_bytes.ensures c.in_ok-runtime.ensures c.in_ok-words.ensures c.in_ok-bytes.ensures
          c.placed_text_agrees.ensures c.placed_text_ends_with_its_cells.ensures c.placed_text_touches_no_free_cell.ensures
          (record {
            comes = c.placed_text_comes_to_its_lines.ensures.comes;
            apart = c.placed_text_comes_to_its_lines.ensures.apart;
            follows = c.placed_text_comes_to_its_lines.ensures.follows;
            outside = c.placed_text_comes_to_its_lines.ensures.outside;
            inside = c.placed_text_comes_to_its_lines.ensures.inside;
          })
          c.in_ok-image.image.entry c.in_ok-image.image.parts c.in_ok-image.ensures.is_program c.in_ok-image.ensures.entry
          parts_are);
    }
