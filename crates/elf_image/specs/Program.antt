-- The image of a compiled program, and the file that it is written to: System V ABI, "ELF Header" and "Program Header".
use Rattle.std.specs.Prelude.{◌≡◌, ◌<◌, ◌≤◌, ℕ, ◌+◌, ◌-◌, ◌*◌, List, [], ◌∷◌, ◌++◌, length, replicate}
use Rattle.std.specs.Int.{next_multiple_of}
use Rattle.byteorder.specs.Endian.{little_bytes}
use Rattle.elf_image.specs.declared.part.Part.{Part}
use Rattle.elf_image.specs.Fields.{magic, file_header_size, program_header_size}
use Rattle.elf_image.specs.Loaded.{greatest_file}
use Rattle.elf_image.specs.Parts.{read_flag, write_flag, execute_flag}

-- the address of the first byte of the text, where the program begins
abbrev pub text_start : ℕ
text_start = 0x10000

-- the bytes of a page
abbrev pub page_size : ℕ
page_size = 0x1000

-- the address of the memory behind a text of so many bytes: the next one where a page begins
abbrev pub memory_start : ℕ → ℕ
memory_start size = next_multiple_of (text_start + size) page_size

-- where the text stands in a file, behind the headers; the alignment of segments is the same
abbrev pub text_offset : ℕ
text_offset = page_size

-- the greatest number of a text's bytes: it stands there up to the end of the file
abbrev pub greatest_text : ℕ
greatest_text = greatest_file - text_offset

-- the part of a text, to be read and executed
abbrev pub text_part : List ℕ → Part
text_part text = record { vaddr = text_start; memsz = length text; flags = read_flag + execute_flag; bytes = text }

-- the part behind it: so many bytes of memory, to be read and written
abbrev pub memory_part : List ℕ → ℕ → Part
memory_part text size = record { vaddr = memory_start (length text); memsz = size; flags = read_flag + write_flag; bytes = [] }

-- the parts of a program
abbrev pub program_parts : List ℕ → ℕ → List Part
program_parts text size = text_part text ∷ memory_part text size ∷ []

-- the bytes of the first of some parts, and the size of the second
abbrev pub text_of : List Part → List ℕ
text_of [] = []
text_of (p ∷ ps) = p.bytes

abbrev pub memory_size_of : List Part → ℕ
memory_size_of [] = 0
memory_size_of (p ∷ []) = 0
memory_size_of (p ∷ q ∷ ps) = q.memsz

-- an entry and parts are those of a program
pub record IsProgramImage (entry : ℕ) (parts : List Part) : Type 0 where
  pub entry_is : entry ≡ text_start
  pub parts_are : parts ≡ program_parts (text_of parts) (memory_size_of parts)
  pub text_fits : length (text_of parts) ≤ greatest_text
  pub has_memory : 0 < memory_size_of parts

-- fields of two bytes and of four, the lowest byte first
abbrev pub half : ℕ → List ℕ
half n = little_bytes 2 n

abbrev pub word : ℕ → List ℕ
word n = little_bytes 4 n

-- so many zeros
unfoldable pub zeros : ℕ → List ℕ
zeros n = replicate n 0

-- the identification: the bytes of ELF, class 32, the lowest byte first, version 1, and padding
abbrev pub identification : List ℕ
identification = magic ++ (1 ∷ 1 ∷ 1 ∷ 0 ∷ 0 ∷ 0 ∷ 0 ∷ 0 ∷ 0 ∷ 0 ∷ 0 ∷ 0 ∷ [])

-- the file header of an executable file for RISC-V that begins at an address: the identification; type, machine and version;
-- the entry; the offsets of program headers and section headers; flags; the header's size; the size and number of program headers;
-- the size and number of section headers, and the one of their names
unfoldable pub file_header : ℕ → List ℕ
file_header entry =
    identification
    ++ (half 2 ++ half 243 ++ word 1)
    ++ word entry
    ++ (word file_header_size ++ word 0)
    ++ word 0
    ++ half file_header_size
    ++ (half program_header_size ++ half 2)
    ++ (half 0 ++ half 0 ++ half 0)

-- the program header of a segment to be loaded: its type; the offset of its bytes; its virtual and its physical address;
-- how many bytes the file has of it, and how many addresses it fills; its flags; its alignment
unfoldable pub segment_header : Part → List ℕ
segment_header p =
    word 1
    ++ word text_offset
    ++ (word p.vaddr ++ word p.vaddr)
    ++ (word (length p.bytes) ++ word p.memsz)
    ++ word p.flags
    ++ word text_offset

-- the file of a program: the headers, zeros up to the text's offset, and the text
unfoldable pub program_file : List ℕ → ℕ → List ℕ
program_file text size =
    file_header text_start
    ++ segment_header (text_part text)
    ++ segment_header (memory_part text size)
    ++ zeros (text_offset - (file_header_size + 2 * program_header_size))
    ++ text
