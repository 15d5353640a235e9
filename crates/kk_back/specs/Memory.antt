-- How much memory an image asks for, how large the frames are that it has room for, and where its cells and its frames stand.
use Rattle.std.specs.Prelude.{◌≡◌, ℕ, ◌+◌, ◌*◌, ◌≤◌, List, length}
use Rattle.cell_heap.specs.Pool.{Pool, end_of}
use Rattle.cell_runtime.specs.Layouts.{layout_of}
use Rattle.cell_runtime.specs.Texts.{IsText}
use Rattle.elf_image.specs.Program.{memory_start, program_parts, text_of, memory_size_of}
use Rattle.elf_image.specs.declared.part.Part.{Part}
use Rattle.kk_counted.specs.BareForms.{bare_program}
use Rattle.kk_counted.specs.FunctionSizes.{AllHaveVariablesBelow, AllHaveSlotsBelow}
use Rattle.kk_counted.specs.TokenedCodes.{TokenedProgram}
use Rattle.rv_cells.specs.Laws.{most_values_of}
use Rattle.rv_inline.specs.InLine.{most_fresh}
use Rattle.rv_isa.specs.declared.placed.Placed.{Placed}
use Rattle.rv_isa.specs.AsmCode.{Lines}
use Rattle.rv_isa.specs.PlacedCode.{placed_functions, placed_memory}
use Rattle.rv_isa.specs.Sizes.{wide_frame}
use Rattle.rv_isa.specs.ValueBounds.{HaveValuesBelow}
use Rattle.rv_isa.specs.FrameSizes.{frame_size}
use Rattle.rv_place.specs.Bytes.{IsTextOf}
use Rattle.rv_place.specs.Texts.{ArePlacedWords}
use Rattle.rv_place.specs.declared.words.Words.{Words}

-- A program with places stands in an image: its words are placed behind those of the runtime, and both are the image's text. The
-- memory behind the text is exactly what the runtime lays out in it (cell_runtime, `layout_of`): the buffer, so many cells and a stack
-- of so many frames. These are of one size, that of a word for the way back and one for each slot of the program's functions. It is at
-- most that of a wide frame.
pub record IsPlacedIn (placed : Placed) (cells depth : ℕ) (parts : List Part) : Type 0 where
  pub runtime : Placed
  pub runtime_is : IsText cells depth (frame_size (placed_functions placed)) runtime
  pub words : Words
  pub words_are : ArePlacedWords runtime placed words
  pub text : List ℕ
  pub text_is : IsTextOf words text
  pub parts_are : parts ≡ program_parts text (placed_memory runtime).size
  pub small : frame_size (placed_functions placed) ≤ wide_frame
  pub size : memory_size_of parts ≡ (layout_of cells depth (frame_size (placed_functions placed))).stack_end

-- The cells of a pool and so many frames of so many bytes fill the memory of an image, as the runtime lays them out (cell_runtime,
-- `layout_of`). Behind the text come the runtime's buffer, the cells and the frames, and with these the memory ends. Only where frames
-- are larger than a load reaches from their first word, as many bytes as `below_pointer` says are left behind them. At any depth but 0
-- no other size of frames fills the same memory.
pub record FillMemory (pool : Pool) (depth frame : ℕ) (parts : List Part) : Type 0 where
  pub first : pool.first ≡ memory_start (length (text_of parts)) + (layout_of pool.cells depth frame).cells
  pub size : memory_size_of parts ≡ (layout_of pool.cells depth frame).stack_end

-- the address where the frames end, which begin where the cells end
abbrev pub frames_end : Pool → ℕ → ℕ → ℕ
frames_end pool depth frame = end_of pool + depth * frame

-- an image of assembler code: a frame has a word for each value that a function names, so many more, and no more but that for the way
-- back
pub record HasAsmMemory (functions : List Lines) (more cells depth : ℕ) (parts : List Part) : Type 0 where
  pub placed : Placed
  pub is : IsPlacedIn placed cells depth parts
  pub few : (most : ℕ) → HaveValuesBelow most functions → frame_size (placed_functions placed) ≤ 4 * (most + more) + 4

-- an image of a program with tokens: a frame has a word for each variable and each slot of a function, for the arguments of a call, for
-- the values of a call in line, and for the way back, and no more
pub record HasMemory (code : TokenedProgram) (cells depth : ℕ) (parts : List Part) : Type 0 where
  pub placed : Placed
  pub is : IsPlacedIn placed cells depth parts
  pub few : (variables slots : ℕ) → AllHaveVariablesBelow variables (bare_program code).functions
      → AllHaveSlotsBelow slots code.functions → frame_size (placed_functions placed) ≤ 4 * (most_values_of variables slots + most_fresh) + 4
