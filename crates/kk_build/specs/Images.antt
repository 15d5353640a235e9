-- The files of images that the compiler writes.
use Rattle.std.specs.Prelude.{◌≡◌, ℕ, List}
use Rattle.elf_image.specs.Loaded.{IsLoaded}
use Rattle.elf_image.specs.Program.{IsProgramImage, program_file, text_of, memory_size_of}
use Rattle.elf_image.specs.declared.part.Part.{Part}

-- the file of an image of a compiled program: a text, which is read and executed, and memory that is read and written; the file loads that image
pub record IsImageFile (file : List ℕ) : Type 0 where
  pub entry : ℕ
  pub parts : List Part
  pub program : IsProgramImage entry parts
  pub written : file ≡ program_file (text_of parts) (memory_size_of parts)
  pub loads : IsLoaded file entry parts
