-- The definitions, computed.
use Rattle.std.proofs.Common.{◌≡◌, ℕ, List, [], ◌∷◌, ◌++◌, take, replicate, Some, None, refl}
use Rattle.elf_image.specs.declared.bad_image.BadImage.TheVariants.{Short, NotElf, NotRv32, PartOutside}
use Rattle.elf_image.specs.Loaded.{reason_of, parts_of}
use Rattle.elf_image.specs.Program.{file_header, segment_header, program_file}

-- what every file of a program begins with
first_bytes : (text : List ℕ) (size : ℕ) → take 20 (program_file text size) ≡ 0x7f ∷ 0x45 ∷ 0x4c ∷ 0x46 ∷ 1 ∷ 1 ∷ 1 ∷ 0 ∷ 0 ∷ 0 ∷ 0 ∷ 0 ∷ 0 ∷ 0 ∷ 0 ∷ 0 ∷ 2 ∷ 0 ∷ 0xf3 ∷ 0 ∷ []
unfolding file_header segment_header program_file
first_bytes text size = refl

short : reason_of (replicate 51 0) ≡ Some Short
unfolding reason_of
short = refl

not_elf : reason_of (replicate 52 0) ≡ Some NotElf
unfolding reason_of
not_elf = refl

-- a file header, a header of a stack and one of a segment of 4 bytes at 0x10000, all by hand
by_hand : ℕ → ℕ → List ℕ
by_hand class kept =
    (0x7f ∷ 0x45 ∷ 0x4c ∷ 0x46 ∷ class ∷ 1 ∷ 1 ∷ 0 ∷ 0 ∷ 0 ∷ 0 ∷ 0 ∷ 0 ∷ 0 ∷ 0 ∷ 0 ∷ [])
    ++ (2 ∷ 0 ∷ 243 ∷ 0 ∷ 1 ∷ 0 ∷ 0 ∷ 0 ∷ 0 ∷ 0 ∷ 1 ∷ 0 ∷ 52 ∷ 0 ∷ 0 ∷ 0 ∷ 0 ∷ 0 ∷ 0 ∷ 0 ∷ 0 ∷ 0 ∷ 0 ∷ 0 ∷ [])
    ++ (52 ∷ 0 ∷ 32 ∷ 0 ∷ 2 ∷ 0 ∷ 0 ∷ 0 ∷ 0 ∷ 0 ∷ 0 ∷ 0 ∷ [])
    ++ (0x51 ∷ 0xe5 ∷ 0x74 ∷ 0x64 ∷ 9 ∷ 9 ∷ 9 ∷ 9 ∷ [])
    ++ replicate 24 0
    ++ (1 ∷ 0 ∷ 0 ∷ 0 ∷ 116 ∷ 0 ∷ 0 ∷ 0 ∷ 0 ∷ 0 ∷ 1 ∷ 0 ∷ 0 ∷ 0 ∷ 0 ∷ 0 ∷ [])
    ++ (4 ∷ 0 ∷ 0 ∷ 0 ∷ 8 ∷ 0 ∷ 0 ∷ 0 ∷ 5 ∷ 0 ∷ 0 ∷ 0 ∷ 0 ∷ 0 ∷ 0 ∷ 0 ∷ [])
    ++ take kept (0x73 ∷ 0 ∷ 0x10 ∷ 0 ∷ [])

loads : reason_of (by_hand 1 4) ≡ None
unfolding reason_of parts_of by_hand
loads = refl

loads_one_part : parts_of (by_hand 1 4) ≡ record { vaddr = 0x10000; memsz = 8; flags = 5; bytes = 0x73 ∷ 0 ∷ 0x10 ∷ 0 ∷ [] } ∷ []
unfolding parts_of by_hand
loads_one_part = refl

cut : reason_of (by_hand 1 3) ≡ Some PartOutside
unfolding reason_of parts_of by_hand
cut = refl

of_64_bits : reason_of (by_hand 2 4) ≡ Some NotRv32
unfolding reason_of parts_of by_hand
of_64_bits = refl
