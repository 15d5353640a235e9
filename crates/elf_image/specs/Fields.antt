-- The fields of an ELF32 file: System V ABI, "ELF Header" and "Program Header".
use Rattle.std.specs.Prelude.{ℕ, zero, suc, ◌==◌, List, [], ◌∷◌, drop, filter, slice_index, Bool}
use Rattle.byteorder.specs.Endian.{little_number}
use Rattle.elf_image.specs.declared.header.ProgramHeader.{ProgramHeader}

-- the number in two bytes and in four from an offset on, the lowest byte first
abbrev pub half_at : List ℕ → ℕ → ℕ
half_at file offset = little_number 2 (drop offset file)

abbrev pub word_at : List ℕ → ℕ → ℕ
word_at file offset = little_number 4 (drop offset file)

-- the bytes of the file header, and of a program header
abbrev pub file_header_size : ℕ
file_header_size = 52

abbrev pub program_header_size : ℕ
program_header_size = 32

-- the bytes that every ELF file begins with
abbrev pub magic : List ℕ
magic = 0x7f ∷ 0x45 ∷ 0x4c ∷ 0x46 ∷ []

-- the file header: class, data encoding and version of the identification; then type, machine and version of the file, the entry,
-- the offset of the program headers, their size and their number
abbrev pub class_of : List ℕ → ℕ
class_of file = slice_index file 4

abbrev pub encoding_of : List ℕ → ℕ
encoding_of file = slice_index file 5

abbrev pub identification_version_of : List ℕ → ℕ
identification_version_of file = slice_index file 6

abbrev pub type_of : List ℕ → ℕ
type_of file = half_at file 16

abbrev pub machine_of : List ℕ → ℕ
machine_of file = half_at file 18

abbrev pub version_of : List ℕ → ℕ
version_of file = word_at file 20

abbrev pub entry_of : List ℕ → ℕ
entry_of file = word_at file 24

abbrev pub table_offset_of : List ℕ → ℕ
table_offset_of file = word_at file 28

abbrev pub header_size_of : List ℕ → ℕ
header_size_of file = half_at file 42

abbrev pub header_count_of : List ℕ → ℕ
header_count_of file = half_at file 44

-- the program header that bytes begin with
abbrev pub header_of : List ℕ → ProgramHeader
header_of bytes = record {
  kind = word_at bytes 0;
  offset = word_at bytes 4;
  vaddr = word_at bytes 8;
  filesz = word_at bytes 16;
  memsz = word_at bytes 20;
  flags = word_at bytes 24;
}

-- so many program headers, one behind the other
abbrev pub headers_of : ℕ → List ℕ → List ProgramHeader
headers_of zero bytes = []
headers_of (suc n) bytes = header_of bytes ∷ headers_of n (drop 32 bytes)

-- a header of the type PT_LOAD, a segment to be loaded
abbrev pub is_load : ProgramHeader → Bool
is_load h = h.kind == 1

-- the segments of a file that are to be loaded
abbrev pub loads_of : List ℕ → List ProgramHeader
loads_of file = filter is_load (headers_of (header_count_of file) (drop (table_offset_of file) file))
