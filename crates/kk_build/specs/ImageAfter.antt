-- What the image in a file comes to by the table of instructions.
use Rattle.std.specs.Prelude.{ℕ, List}
pub use Rattle.rv_isa.specs.Processor.{Processor, Ending, going, exited, trapped, Progress, goes, start}
pub use Rattle.rv_isa.specs.InstructionSet.{go_on}
pub use Rattle.rv_isa.specs.Execution.{step, run, image_after}
pub use Rattle.rv_isa.specs.ProcessorMachine.{ExitsWell}
pub use Rattle.rv_isa.specs.FreeCells.{free_cells}
use Rattle.elf_image.specs.Fields.{entry_of}
use Rattle.elf_image.specs.Loaded.{loaded_parts}

-- on an input, after so many executed instructions
abbrev pub file_after : List ℕ → List ℕ → ℕ → Progress
file_after file input count = image_after (loaded_parts file) (entry_of file) input count
