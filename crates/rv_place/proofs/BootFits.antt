-- A placed text fits in an image: what the image's maker asks for.
use Rattle.std.proofs.Common.{◌≡◌, ◌≤◌, ◌<◌, ℕ, ◌+◌, List, length, ap, arith}
use Rattle.kk_base.specs.Sizes.{greatest_cells, greatest_depth}
use Rattle.elf_image.specs.Parts.{greatest_end}
use Rattle.elf_image.specs.Program.{memory_start, greatest_text}
use Rattle.rv_isa.specs.declared.placed.Placed.{Placed}
use Rattle.rv_isa.specs.PlacedCode.{placed_functions, placed_memory}
use Rattle.cell_runtime.specs.Texts.{IsText}
use Rattle.rv_place.specs.declared.words.Words.{Words}
use Rattle.rv_isa.specs.FrameSizes.{frame_size}
use Rattle.rv_place.specs.Bytes.{IsTextOf}
use Rattle.rv_place.specs.Texts.{ArePlaceable, text_bytes, memory_of, ArePlacedWords}
use Rattle.rv_place.proofs.BootSizes.{text_size}
use Rattle.rv_place.proofs.BootGround.{HasRoom, has-room}

-- the text has some bytes and not too many, and so has the memory behind it
pub record FitsImage (runtime : Placed) (text : List ℕ) : Type 0 where
  pub has_text : 0 < length text
  pub text_fits : length text ≤ greatest_text
  pub has_memory : 0 < (placed_memory runtime).size
  pub memory_fits : memory_start (length text) + (placed_memory runtime).size ≤ greatest_end

pub fits-image : {cells depth : ℕ} {runtime program : Placed} {words : Words} {text : List ℕ} → cells ≤ greatest_cells → depth ≤ greatest_depth
    → IsText cells depth (frame_size (placed_functions program)) runtime → ArePlaceable runtime program → ArePlacedWords runtime program words → IsTextOf words text → FitsImage runtime text
fits-image {cells} {depth} {runtime} {program} {words} {text} few_cells few_depth is_runtime placeable placed bytes =
    let size : length text ≡ text_bytes runtime program = text_size placed bytes in
    let room : HasRoom cells depth (frame_size (placed_functions program)) (text_bytes runtime program) (memory_of runtime program) (placed_memory runtime).stack_bottom (placed_memory runtime).size =
    has-room few_cells few_depth is_runtime placeable in
    let memory : memory_start (length text) ≡ memory_of runtime program = ap memory_start size in
    record {
      has_text = omega (arith, size, is_runtime.words);
      text_fits = omega (arith, size, room.few_text);
      has_memory = omega (arith, room.size_is, room.some_cells);
      memory_fits = omega (arith, memory, room.near, room.size_is, room.few_cells, room.few_frames);
    }
