-- How much assembler code can be placed, and how many bytes the text of an image has.
use Rattle.std.specs.Prelude.{ℕ, ◌+◌, ◌*◌, ◌≤◌, List, length}
use Rattle.cell_runtime.specs.Sizes.{runtime_words}
use Rattle.kk_counted.specs.TokenedCodes.{TokenedProgram}
use Rattle.kk_counted.specs.TokenedWords.{all_tokened_words}
use Rattle.rv_inline.specs.Growth.{most_growth}
use Rattle.rv_isa.specs.AsmCode.{Lines}
use Rattle.rv_isa.specs.Costs.{functions_length}
use Rattle.rv_place.specs.Texts.{most_text_length, most_constant_bytes}
use Rattle.cell_runtime.specs.Operations.{all_bytes}

-- assembler code is within what a text may have: the instructions of all functions, with their moves, and the constant bytes
pub record FitsText (functions : List Lines) (constants : List (List ℕ)) : Type 0 where
  pub instructions : functions_length functions ≤ most_text_length
  pub bytes : length (all_bytes constants) ≤ most_constant_bytes

-- The most bytes of a text with assembler code: four for each instruction of the runtime, of the functions' entries, of 7 at most,
-- and of their lines, and the constants.
abbrev pub most_asm_bytes : List Lines → List (List ℕ) → ℕ
most_asm_bytes functions constants =
    4 * (runtime_words + 7 * length functions + functions_length functions) + length (all_bytes constants)

-- the most bytes of a text with a program with tokens: four for each word of the runtime, of the functions' entries and parameters,
-- of 15 at most, of their forms, the strings included, and of the calls in line
abbrev pub most_text_bytes : TokenedProgram → ℕ
most_text_bytes code =
    4 * (runtime_words + 15 * length code.functions + all_tokened_words code.functions + most_growth)
