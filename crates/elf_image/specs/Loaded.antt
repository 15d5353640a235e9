-- Which files are images that can be loaded, which images they are, and why the others are none.
use Rattle.std.specs.Prelude.{◌≡◌, ℕ, ◌+◌, ◌*◌, ◌==◌, nat_eq, nat_le, nat_lt, List, [], ◌∷◌, length, take, drop, map, filter, Bool, ◌&&◌, ◌||◌, Option, Some, None, if◌then◌else◌}
use Rattle.std.specs.List.{starts_with, list_all}
use Rattle.kk_base.specs.Memory as memory
use Rattle.elf_image.specs.declared.bad_image.BadImage.{BadImage}
use Rattle.elf_image.specs.declared.bad_image.BadImage.TheVariants.{Short, NotElf, NotRv32, NotExec, BadHeaders, PartOutside, PartsOverlap, TooLarge, BadEntry, NoMemory}
use Rattle.elf_image.specs.declared.header.ProgramHeader.{ProgramHeader}
use Rattle.elf_image.specs.declared.part.Part.{Part}
use Rattle.elf_image.specs.Fields.{file_header_size, program_header_size, magic, class_of, encoding_of, identification_version_of, type_of, machine_of, version_of, entry_of, table_offset_of, header_size_of, header_count_of, loads_of}
use Rattle.elf_image.specs.Parts.{memory_of, are_apart, are_in_reach, is_entry}

-- the bytes of a segment
abbrev pub bytes_of : List ℕ → ProgramHeader → List ℕ
bytes_of file h = take h.filesz (drop h.offset file)

-- a segment as a part of the image
abbrev pub part_of : List ℕ → ProgramHeader → Part
part_of file h = record { vaddr = h.vaddr; memsz = h.memsz; flags = h.flags; bytes = bytes_of file h }

-- the parts that a file loads: its segments, without those that fill no address
unfoldable pub parts_of : List ℕ → List Part
parts_of file = map (part_of file) (filter (λ h. nat_lt 0 h.memsz) (loads_of file))

-- the file begins with the bytes of ELF
abbrev pub is_elf : List ℕ → Bool
is_elf file = starts_with nat_eq file magic

-- ELFCLASS32, ELFDATA2LSB, EV_CURRENT, and EM_RISCV
abbrev pub is_rv32 : List ℕ → Bool
is_rv32 file = (class_of file == 1) && (encoding_of file == 1) && (identification_version_of file == 1) && (machine_of file == 243)

-- ET_EXEC, and EV_CURRENT
abbrev pub is_executable : List ℕ → Bool
is_executable file = (type_of file == 2) && (version_of file == 1)

-- one to 64 program headers lie in the file, and no segment has more bytes than memory
abbrev pub has_headers : List ℕ → Bool
has_headers file =
    (header_size_of file == program_header_size)
    && nat_le 1 (header_count_of file)
    && nat_le (header_count_of file) 64
    && nat_le (table_offset_of file + program_header_size * header_count_of file) (length file)
    && list_all (λ h. nat_le h.filesz h.memsz) (loads_of file)

-- a segment has no bytes, or they lie in a file of so many
abbrev pub is_inside : ProgramHeader → ℕ → Bool
is_inside h size = (h.filesz == 0) || nat_le (h.offset + h.filesz) size

-- the bytes of each segment lie in the file
abbrev pub has_segments : List ℕ → Bool
has_segments file = list_all (λ h. is_inside h (length file)) (loads_of file)

-- the greatest number of a file's bytes
abbrev pub greatest_file : ℕ
greatest_file = 0x80000000

-- what is asked of a file, in the order in which it is looked at, each with the reason that a file which fails it has
abbrev pub conditions : List ℕ → List (BadImage × Bool)
conditions file =
    (Short, nat_le file_header_size (length file))
    ∷ (NotElf, is_elf file)
    ∷ (NotRv32, is_rv32 file)
    ∷ (NotExec, is_executable file)
    ∷ (BadHeaders, has_headers file)
    ∷ (PartOutside, has_segments file)
    ∷ (PartsOverlap, are_apart (parts_of file))
    ∷ (TooLarge, are_in_reach (parts_of file) && nat_le (length file) greatest_file)
    ∷ (BadEntry, is_entry (parts_of file) (entry_of file))
    ∷ []

-- the first condition that fails
abbrev pub first_failing : List (BadImage × Bool) → Option BadImage
first_failing [] = None
first_failing (c ∷ cs) = if c.1 then first_failing cs else Some c.0

-- why a file is no image; none where it is one
unfoldable pub reason_of : List ℕ → Option BadImage
reason_of file = first_failing (conditions file)

-- the file meets every condition, and is the image with this entry and these parts
pub record IsLoaded (file : List ℕ) (entry : ℕ) (parts : List Part) : Type 0 where
  pub sound : reason_of file ≡ None
  pub entry_is : entry ≡ entry_of file
  pub parts_are : parts ≡ parts_of file

-- the memory that a machine starts with where the file is loaded
abbrev pub loaded_parts : List ℕ → List memory.Part
loaded_parts file = memory_of (parts_of file)

-- an error tells the reason of the file; want of memory tells nothing
abbrev pub IsReason : BadImage → List ℕ → Type 0
IsReason NoMemory file = Unit {0}
IsReason reason file = reason_of file ≡ Some reason
