-- The image of a placed text, and the processor that begins with it.
use Rattle.std.specs.Prelude.{◌≡◌, ℕ, ◌+◌, ◌*◌, List, Some, map, slice_get}
use Rattle.kk_base.specs.Memory.{Part}
use Rattle.kk_base.specs.Sizes.{AreSizes}
use Rattle.elf_image.specs.Parts as image
use Rattle.elf_image.specs.Program.{text_start, program_parts}
use Rattle.rv_isa.specs.declared.placed.Placed.{Placed}
use Rattle.rv_isa.specs.PlacedCode.{PlacedLines, placed_functions, placed_memory}
use Rattle.rv_isa.specs.Processor.{Processor, Ending, Progress, start, bare}
use Rattle.rv_isa.specs.ProcessorMachine.{ended}
use Rattle.rv_isa.specs.FreeCells.{free_list}
use Rattle.rv_isa.specs.Standing.{Code, code_of}
use Rattle.cell_runtime.specs.Sizes.{runtime_words}
use Rattle.cell_heap.specs.Pool.{Pool}
use Rattle.cell_heap.specs.Blocks.{seen_cells}
use Rattle.cell_heap.specs.FreeCells.{ListsFree}
use Rattle.cell_runtime.specs.Texts.{IsText}
use Rattle.cell_runtime.specs.World.{World}
use Rattle.rv_place.specs.declared.words.Words.{Words}
use Rattle.rv_isa.specs.FrameSizes.{frame_size}
use Rattle.rv_place.specs.Texts.{ArePlaceable, ArePlacedWords}
use Rattle.rv_place.specs.Bytes.{IsTextOf}
use Rattle.rv_place.specs.ProcessorStates.{AllPlain, HasCells}

-- the memory that a text is loaded to, with so many bytes behind it
abbrev pub loaded_image : List ℕ → ℕ → List Part
loaded_image text size = image.memory_of (program_parts text size)

-- the processor that begins with the text
abbrev pub first_processor : List ℕ → ℕ → List ℕ → Processor
first_processor text size input = start (loaded_image text size) text_start input

-- the parts and the code of a run of it
abbrev pub parts_of : List ℕ → Placed → List Part
parts_of text runtime = map bare (loaded_image text (placed_memory runtime).size)

abbrev pub code_in : Words → Code
code_in words = code_of text_start words.instructions.items

-- the entry of the first function, which stands behind the runtime
abbrev pub main_entry : ℕ
main_entry = text_start + 4 * runtime_words

-- a run has ended as the machine of the placed form, memory has the cells of the world, and the free cells of the image are
-- those of the world,
-- each once
pub record EndsWithCells (pool : Pool) (how : Ending) (world : World) (last : Progress) : Type 0 where
  pub ending : ended last.ending ≡ Some how
  pub trace : last.processor.trace ≡ world.trace
  pub memory : HasCells pool world.cells last.processor
  pub free : ListsFree (seen_cells world.cells) (free_list pool.cells last.processor)

-- what a run does beside the lines of the program: 11 instructions of the start, 5 of main's entry at most, and 3 of the exit
abbrev pub outside_lines : ℕ
outside_lines = 11 + 5 + 3

-- A text whose image does what its program does: the runtime is that of these sizes and of the program's frames; the program can
-- be placed; the text is the bytes of their words; and `main` is the first function.
pub record IsPlacedImage (cells depth : ℕ) (runtime program : Placed) (words : Words) (text : List ℕ) (main : PlacedLines) : Type 0 where
  pub sizes : AreSizes cells depth
  pub runtime_is : IsText cells depth (frame_size (placed_functions program)) runtime
  pub placeable : ArePlaceable runtime program
  pub plain : AllPlain (placed_functions program)
  pub words_are : ArePlacedWords runtime program words
  pub text_is : IsTextOf words text
  pub first : slice_get (placed_functions program) 0 ≡ Some main
