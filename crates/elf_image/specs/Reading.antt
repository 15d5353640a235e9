-- What a reader of a file has found out, condition by condition. Private functions alone cite these.
use Rattle.std.specs.Prelude.{◌≡◌, ℕ, nat_le, List, [], length, map, true}
use Rattle.std.specs.List.{list_all}
use Rattle.elf_image.specs.declared.header.FileHeader.{FileHeader}
use Rattle.elf_image.specs.declared.header.ProgramHeader.{ProgramHeader}
use Rattle.elf_image.specs.declared.part.Part.{Part}
use Rattle.elf_image.specs.Fields.{file_header_size, entry_of, table_offset_of, header_size_of, header_count_of, loads_of}
use Rattle.elf_image.specs.Loaded.{part_of, parts_of, is_elf, is_rv32, is_executable, is_inside, has_headers, has_segments}

-- a segment as a part, its bytes aside
abbrev pub extent_of : ProgramHeader → Part
extent_of h = record { vaddr = h.vaddr; memsz = h.memsz; flags = h.flags; bytes = [] }

-- the file meets the first four conditions, and this is what its header says
pub record IsFileHeader (header : FileHeader) (file : List ℕ) : Type 0 where
  pub long : nat_le file_header_size (length file) ≡ true
  pub elf : is_elf file ≡ true
  pub rv32 : is_rv32 file ≡ true
  pub executable : is_executable file ≡ true
  pub entry_is : header.entry ≡ entry_of file
  pub table_offset_is : header.table_offset ≡ table_offset_of file
  pub header_size_is : header.header_size ≡ header_size_of file
  pub header_count_is : header.header_count ≡ header_count_of file

-- the file meets the fifth condition, and these are its segments
pub record HasLoads (file : List ℕ) (loads : List ProgramHeader) : Type 0 where
  pub readable : has_headers file ≡ true
  pub loads_are : loads ≡ loads_of file

-- the file meets the first six conditions, and these are the segments that become its parts
pub record HasSegments (file : List ℕ) (segments : List ProgramHeader) : Type 0 where
  pub readable : has_headers file ≡ true
  pub inside : has_segments file ≡ true
  pub parts_are : parts_of file ≡ map (part_of file) segments
  pub each_inside : list_all (λ h. is_inside h (length file)) segments ≡ true
  pub each_filled : list_all (λ h. nat_le h.filesz h.memsz) segments ≡ true
