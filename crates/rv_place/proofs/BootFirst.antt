-- The loaded image: its code stands, its constants and its cells are there.
use Rattle.std.proofs.Common.{◌≡◌, ◌≤◌, ◌<◌, ℕ, ◌+◌, ◌*◌, inl, List, ◌++◌, length, map, refl, ap, subst, ◌∙◌, arith}
use Rattle.std.proofs.lemmas.Option.{slice_get_within}
use Rattle.kk_base.specs.Memory.{byte_loaded}
use Rattle.elf_image.specs.Program.{text_start, memory_start}
use Rattle.rv_isa.specs.declared.placed.Placed.{Placed}
use Rattle.rv_isa.specs.PlacedCode.{placed_constants}
use Rattle.rv_isa.specs.Bytes.{bytes_at}
use Rattle.rv_isa.specs.Processor.{bare}
use Rattle.rv_isa.specs.Standing.{Stands}
use Rattle.rv_isa.proofs.Standing.{Stands-code_of}
use Rattle.cell_heap.specs.Pool.{IsUsable}
use Rattle.cell_runtime.specs.Texts.{pool_of}
use Rattle.cell_runtime.specs.Operations.{all_bytes}
use Rattle.rv_place.specs.declared.words.Words.{Words}
use Rattle.rv_place.specs.Texts.{ArePlaceable, text_words, map_of, ArePlacedWords}
use Rattle.rv_place.specs.Bytes.{IsTextOf}
use Rattle.rv_place.specs.Images.{loaded_image, first_processor, code_in}
use Rattle.rv_place.specs.Grounds.{constant_bytes, Rests}
use Rattle.rv_place.proofs.BootBytes.{HoldsBytes, held-front, held-back, bytes_at-held, reads-held, length-words}
use Rattle.rv_place.proofs.BootMemory.{two_parts, image-text, text-fetched, memory-loaded, memory-stored, stored-behind}
use Rattle.rv_place.proofs.BootSizes.{memory_behind, words_most}
use Rattle.rv_place.proofs.BootGround.{HasRoom}

-- the cells may be used
pub usable : (cells depth frame text memory bottom size : ℕ) → HasRoom cells depth frame text memory bottom size → IsUsable (pool_of cells memory) (two_parts text memory size)
usable cells depth frame text memory bottom size room = record {
  aligned = omega (arith, room.memory_page);
  some = omega arith;
  below = omega (arith, room.near, room.some_cells, room.few_cells);
  loads = λ at low high. memory-loaded text memory size at 4 (omega arith) (omega (arith, room.size_is, room.some_cells));
  stores = λ at low high. memory-stored text memory size at 4 (omega arith) (omega (arith, room.size_is, room.some_cells));
}

module _ {runtime program : Placed} {words : Words} {text : List ℕ} (placeable : ArePlaceable runtime program) (placed : ArePlacedWords runtime program words) (bytes : IsTextOf words text) (size : ℕ) (input : List ℕ) where
  held : HoldsBytes (byte_loaded (loaded_image text size)) text_start (bytes.code ++ words.constants.items)
  held = subst (HoldsBytes (byte_loaded (loaded_image text size)) text_start) bytes.text_is (image-text text size)

  pub first-stands : Stands (code_in words) (first_processor text size input)
  first-stands =
      let is = words.instructions.items in
      let memory = byte_loaded (loaded_image text size) in
      Stands-code_of text_start is (first_processor text size input) refl (omega (arith, placed.size, words_most placeable))
      (λ k i there.
      let inside : k < length is = slice_get_within is k i there in (
        text-fetched (length text) (memory_start (length text)) size (text_start + 4 * k) 4 (omega arith) (omega (arith, bytes.size)),
        reads-held memory text_start is bytes.code k i bytes.code_is (held-front memory text_start bytes.code words.constants.items held) there,
      ))
      (λ x count allowed some.
      let behind : memory_start (length text) ≤ x = stored-behind (length text) (memory_start (length text)) size x count allowed some in
      inl (omega (arith, bytes.size, memory_behind (length text))))

  first-constants : bytes_at (byte_loaded (loaded_image text size)) (map_of runtime program).constants.first (constant_bytes (map_of runtime program)) ≡ all_bytes (placed_constants program)
  first-constants =
      let memory = byte_loaded (loaded_image text size) in
      let behind : HoldsBytes memory (text_start + length bytes.code) words.constants.items = held-back memory text_start bytes.code words.constants.items held in
      let code_size : length bytes.code ≡ 4 * text_words runtime program = length-words words.instructions.items bytes.code bytes.code_is ∙ ap (λ n. 4 * n) placed.size in
      let there : HoldsBytes memory (text_start + 4 * text_words runtime program) words.constants.items = subst (λ n. HoldsBytes memory (text_start + n) words.constants.items) code_size behind in
      bytes_at-held memory (text_start + 4 * text_words runtime program) (all_bytes (placed_constants program))
      (subst (HoldsBytes memory (text_start + 4 * text_words runtime program)) placed.constants there)

  pub first-rests : Rests (map_of runtime program) (code_in words) (map bare (loaded_image text size)) (first_processor text size input)
  first-rests = record { stands = first-stands; parts_are = refl; constants = first-constants }
