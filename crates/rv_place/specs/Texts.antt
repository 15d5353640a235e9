-- What a text is made of: the runtime's instructions, those of the functions behind them, and the constants behind these.
use Rattle.std.specs.Prelude.{◌≡◌, ℕ, ◌+◌, ◌-◌, ◌*◌, ◌^◌, ◌≤◌, List, ◌++◌, length, cond, nat_lt}
use Rattle.kk_base.specs.declared.limit.LimitKind.TheVariants.{FunctionNodes, Instances, ProgramNodes}
use Rattle.kk_base.specs.Limits.{greatest_of}
use Rattle.elf_image.specs.Program.{text_start, memory_start}
use Rattle.rv_isa.specs.declared.instr.Instr.{Instr}
use Rattle.rv_isa.specs.declared.placed.Placed.{Placed}
use Rattle.rv_isa.specs.PlacedCode.{placed_functions, placed_constants, placed_natives, placed_memory}
use Rattle.rv_isa.specs.Costs.{placed_functions_length}
use Rattle.rv_isa.specs.Sizes.{narrow_frame, wide_frame}
use Rattle.rv_isa.specs.Standing.{code_of}
use Rattle.cell_runtime.specs.Lines.{Spells, AreWithin, words_of, labels_of}
use Rattle.cell_heap.specs.Pool.{Pool}
use Rattle.cell_runtime.specs.Texts.{pool_of, greatest_reach}
use Rattle.cell_runtime.specs.Operations.{Constants, all_bytes}
use Rattle.rv_isa.specs.FrameSizes.{frame_size}
use Rattle.rv_place.specs.Addresses.{reach_of, jump_words, most_entry_words, words_of_functions, entries_from, frames_taken, frame_bias}
use Rattle.rv_place.specs.Lines.{Map, FunctionsAt}
use Rattle.rv_place.specs.declared.reach.Reach.{Reach}
use Rattle.rv_place.specs.declared.reach.Reach.TheVariants.{Near, Wide}
use Rattle.rv_place.specs.declared.words.Words.{Words}

-- ---- what can be placed

-- the most instructions of lines for each pair of a node of the program and a node of its greatest function
abbrev pub pair_words : ℕ
pair_words = 128

-- the most instructions of the lines of all functions, each counted at its most and without the functions' entries
abbrev pub most_text_length : ℕ
most_text_length = pair_words * (greatest_of FunctionNodes * greatest_of ProgramNodes)

-- the most functions of a program
abbrev pub most_functions : ℕ
most_functions = greatest_of Instances

-- the most instructions of a runtime
abbrev pub most_runtime_words : ℕ
most_runtime_words = 1024

-- the most instructions of a text
abbrev pub most_text_words : ℕ
most_text_words = most_runtime_words + most_entry_words * most_functions + most_text_length

-- the most constant bytes for each node of a program
abbrev pub node_bytes : ℕ
node_bytes = 1024

-- the most constant bytes of a program
abbrev pub most_constant_bytes : ℕ
most_constant_bytes = node_bytes * greatest_of ProgramNodes

-- no part of a text stands above this address, and memory begins below it
abbrev pub greatest_address : ℕ
greatest_address = 2 ^ 31

-- how far behind the memory's begin the stack may begin at most
abbrev pub greatest_bottom : ℕ
greatest_bottom = 2 ^ 28

-- A runtime and a program that can be placed: frames are so small that each slot is within reach of the stack pointer, and the
-- text is small enough for a text part.
pub record ArePlaceable (runtime program : Placed) : Type 0 where
  pub lines : AreWithin greatest_reach (placed_natives runtime)
  pub runtime_size : words_of (placed_natives runtime) ≤ most_runtime_words
  pub bottom : (placed_memory runtime).stack_bottom ≤ greatest_bottom
  pub frames : frame_size (placed_functions program) ≤ wide_frame
  pub few_functions : length (placed_functions program) ≤ most_functions
  pub short : placed_functions_length (placed_functions program) ≤ most_text_length
  pub few_bytes : length (all_bytes (placed_constants program)) ≤ most_constant_bytes

-- ---- the text

-- How far jumps lead. Where a frame is larger than a load reaches from its first word, they lead anywhere. Else, where the text is
-- few instructions with near jumps, they are near.
abbrev pub jumps_of : Placed → Placed → Reach
jumps_of runtime program =
    cond (nat_lt narrow_frame (frame_size (placed_functions program))) Wide
    (reach_of jump_words (words_of (placed_natives runtime) + words_of_functions Near (placed_functions program)))

-- how many instructions a text has
abbrev pub text_words : Placed → Placed → ℕ
text_words runtime program = words_of (placed_natives runtime) + words_of_functions (jumps_of runtime program) (placed_functions program)

-- how many bytes: its instructions and the constants
abbrev pub text_bytes : Placed → Placed → ℕ
text_bytes runtime program = 4 * text_words runtime program + length (all_bytes (placed_constants program))

-- The most bytes of a text: four for each instruction of the runtime, of the functions' entries and of their lines, each entry and
-- each line at its most, and the constants.
abbrev pub most_bytes : Placed → Placed → ℕ
most_bytes runtime program =
    4 * (words_of (placed_natives runtime) + most_entry_words * length (placed_functions program)
    + placed_functions_length (placed_functions program))
    + length (all_bytes (placed_constants program))

-- the address of the memory behind it
abbrev pub memory_of : Placed → Placed → ℕ
memory_of runtime program = memory_start (text_bytes runtime program)

-- the cells, which are so many
abbrev pub pool_in : ℕ → Placed → Placed → Pool
pool_in cells runtime program = pool_of cells (memory_of runtime program)

abbrev pub constants_of : Placed → Placed → Constants
constants_of runtime program = record { first = text_start + 4 * text_words runtime program; texts = placed_constants program }

-- where what the code names stands
abbrev pub map_of : Placed → Placed → Map
map_of runtime program = record {
  jumps = jumps_of runtime program;
  frame = frame_size (placed_functions program);
  bottom = memory_of runtime program + (placed_memory runtime).stack_bottom - frame_bias (jumps_of runtime program);
  entries = entries_from (jumps_of runtime program) (text_start + 4 * words_of (placed_natives runtime)) (placed_functions program);
  takes = frames_taken (jumps_of runtime program) (placed_functions program);
  runtime = text_start;
  labels = labels_of 0 (placed_natives runtime);
  constants = constants_of runtime program;
}

-- These are the words of a runtime and a program: the runtime's instructions, and behind them the functions; all at the text's
-- begin.
pub record ArePlacedWords (runtime program : Placed) (words : Words) : Type 0 where
  pub own : List Instr
  pub rest : List Instr
  pub instructions : words.instructions.items ≡ own ++ rest
  pub spelled : Spells (memory_of runtime program) (placed_natives runtime) own
  pub own_size : length own ≡ words_of (placed_natives runtime)
  pub size : length words.instructions.items ≡ text_words runtime program
  pub functions : FunctionsAt (map_of runtime program) (code_of text_start words.instructions.items) (map_of runtime program).entries (placed_functions program)
  pub constants : words.constants.items ≡ all_bytes (placed_constants program)
