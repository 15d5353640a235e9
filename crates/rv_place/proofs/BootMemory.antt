-- What may be done in a loaded image, and what its memory holds.
use Rattle.std.proofs.Common.{◌≡◌, ◌≤◌, ◌<◌, ℕ, ◌+◌, ◌-◌, List, [], ◌∷◌, length, map, true, false, refl, arith}
use Rattle.std.proofs.lemmas.Bool.Decides.{nat_tests}
use Rattle.kk_base.specs.Memory.{Part, covers, byte_loaded}
use Rattle.elf_image.specs.Program.{text_start, memory_start}
use Rattle.rv_isa.specs.Processor.{bare, can_fetch, can_load, can_store}
use Rattle.rv_place.specs.Images.{loaded_image}
use Rattle.rv_place.proofs.BootBytes.{HoldsBytes, held-by}

-- a text of so many bytes, to be read and executed, and memory behind it, to be read and written
abbrev pub two_parts : ℕ → ℕ → ℕ → List Part
two_parts length_of_text memory size =
    record { start = text_start; size = length_of_text; readable = true; writable = false; executable = true; bytes = [] }
    ∷ record { start = memory; size = size; readable = true; writable = true; executable = false; bytes = [] }
    ∷ []

pub image-parts : (text : List ℕ) (size : ℕ) → map bare (loaded_image text size) ≡ two_parts (length text) (memory_start (length text)) size
image-parts text size = refl

-- the image's bytes are those of the text
pub image-text : (text : List ℕ) (size : ℕ) → HoldsBytes (byte_loaded (loaded_image text size)) text_start text
image-text text size =
    held-by (byte_loaded (loaded_image text size)) text_start text (λ k below.
    let inside : covers (record { start = text_start; size = length text; readable = true; writable = false; executable = true; bytes = text }) (text_start + k) 1 ≡ true = grind (arith, nat_tests) in
    let place : (text_start + k) - text_start ≡ k = omega arith in
    rw (inside, place) refl)

module _ (n memory size at count : ℕ) where
  pub text-fetched : text_start ≤ at → at + count ≤ text_start + n → can_fetch (two_parts n memory size) at count ≡ true
  text-fetched low high = grind (arith, nat_tests)

  pub text-loaded : text_start ≤ at → at + count ≤ text_start + n → can_load (two_parts n memory size) at count ≡ true
  text-loaded low high = grind (arith, nat_tests)

  pub memory-loaded : memory ≤ at → at + count ≤ memory + size → can_load (two_parts n memory size) at count ≡ true
  memory-loaded low high = grind (arith, nat_tests)

  pub memory-stored : memory ≤ at → at + count ≤ memory + size → can_store (two_parts n memory size) at count ≡ true
  memory-stored low high = grind (arith, nat_tests)

  -- what is stored is stored in the memory behind the text
  pub stored-behind : can_store (two_parts n memory size) at count ≡ true → 0 < count → memory ≤ at
  stored-behind allowed some = grind (arith, nat_tests)
