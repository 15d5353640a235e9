-- The laws of a program with tokens that is lowered, each as one statement, which crates above take as a premise.
use Rattle.std.specs.Prelude.{◌≡◌, ◌+◌, ◌*◌, ◌%◌, ◌<◌, ◌≤◌, ℕ, List, All, Some, length, slice_get}
use Rattle.kk_counted.specs.BareForms.{bare_program}
use Rattle.kk_counted.specs.CountedCosts.{roomy_cost}
use Rattle.kk_counted.specs.FunctionSizes.{AllHaveVariablesBelow, AllHaveSlotsBelow}
use Rattle.kk_counted.specs.Keeping.{counted_after}
use Rattle.kk_counted.specs.Lowerable.{AreLowerable}
use Rattle.kk_counted.specs.Marks.{CellMarks}
use Rattle.kk_counted.specs.TokenCosts.{HasRoom}
use Rattle.kk_counted.specs.TokenLengths.{tokened_functions_length, all_tokened_computes}
use Rattle.kk_counted.specs.TokenLowerable.{AreTokensLowerable}
use Rattle.kk_counted.specs.TokenSpending.{AreTokensSpent}
use Rattle.kk_counted.specs.TokenedCodes.{TokenedFunction, TokenedProgram}
use Rattle.kk_counted.specs.TokenedWords.{all_tokened_prints, all_tokened_words}
use Rattle.kk_counted.specs.declared.shape.Shape.{Shape}
use Rattle.rv_isa.specs.AsmCode.{Lines}
use Rattle.rv_isa.specs.Costs.{functions_length}
use Rattle.rv_isa.specs.ValueBounds.{HaveValuesBelow}
use Rattle.rv_isa.specs.Numbers.{cell_size}
use Rattle.cell_heap.specs.Pool.{Pool}
use Rattle.cell_runtime.specs.Operations.{all_bytes}
use Rattle.rv_lower.specs.Written.{most_print}
use Rattle.rv_cells.specs.Fitting.{IsFit}
use Rattle.rv_cells.specs.FormLines.{HaveOwnLines, ComesToItsLines, FollowsEachState}
use Rattle.rv_cells.specs.Layout.{Layout, IsNarrow}
use Rattle.rv_cells.specs.Meaning.{setting_on}
use Rattle.rv_cells.specs.Tables.{table_of, layout_in}
use Rattle.rv_cells.specs.TokenedLowered.{IsTokenedForm}
use Rattle.rv_cells.specs.TokenedMeaning.{IsTokenedLowered, TokenedRunsTheSame}
use Rattle.kk_core.specs.CodeNodes.{string_words}
use Rattle.kk_core.specs.Sizes.{most_parameters}

-- the law that assembler code does what a program with tokens does, with room for these
abbrev pub RunTheSame : Type 0
RunTheSame =
    (layout : Layout) (marks : CellMarks) (code : TokenedProgram) (constants : List (List ℕ)) (functions : List Lines)
    → (lowered : IsTokenedLowered layout marks code constants functions) → (room : ℕ) → HasRoom room code
    → (pool : Pool) (depth first : ℕ) (input : List ℕ) → pool.first % cell_size ≡ 0 → 0 < pool.first
    → All (λ byte. byte < 256) input
    → ((n : ℕ) → IsFit layout (counted_after (roomy_cost room) (setting_on (bare_program code) pool depth) input n))
    → TokenedRunsTheSame code room constants functions lowered.main_lines pool depth first input

-- the law that each form has lines of its own in assembler code, to which that code comes where the program is at the form, and
-- that its cells follow the counted heap
abbrev pub ComeToTheirLines : Type 0
ComeToTheirLines =
    (layout : Layout) (marks : CellMarks) (code : TokenedProgram) (constants : List (List ℕ)) (functions : List Lines)
    → (lowered : IsTokenedLowered layout marks code constants functions)
    → AreLowerable marks (bare_program code).functions → code.main ≡ 0
    → (own : HaveOwnLines (bare_program code) functions) × ((room : ℕ) → HasRoom room code
    → (pool : Pool) (depth first : ℕ) (input : List ℕ) → pool.first % cell_size ≡ 0 → 0 < pool.first
    → All (λ byte. byte < 256) input
    → ((n : ℕ) → IsFit layout (counted_after (roomy_cost room) (setting_on (bare_program code) pool depth) input n))
    → ComesToItsLines layout (bare_program code) room constants functions lowered.main_lines pool depth first input own
    × FollowsEachState layout (bare_program code) room constants functions lowered.main_lines pool depth first input)

-- the law that a program that can be lowered with its tokens, and is so, is one whose assembler code is well formed
abbrev pub AreWellLowered : Type 0
AreWellLowered =
    (shape : Shape) (code : TokenedProgram) (texts : List (List ℕ)) (each : List Lines)
    → AreLowerable (table_of shape) (bare_program code).functions → AreTokensLowerable code.functions → AreTokensSpent code
    → IsTokenedForm shape code.texts code.functions each texts
    → IsNarrow (layout_in shape) → (layout_in shape).tag 0 ≡ 0 → (layout_in shape).tag 1 ≡ 1
    → (main : TokenedFunction) → slice_get code.functions code.main ≡ Some main → main.parameters ≡ 0
    → IsTokenedLowered (layout_in shape) (table_of shape) code texts each

-- the law that the assembler code of a program with tokens is no longer than its form tells
abbrev pub AreShortLowered : Type 0
AreShortLowered =
    (shape : Shape) (code : TokenedProgram) (texts : List (List ℕ)) (each : List Lines)
    → AreLowerable (table_of shape) (bare_program code).functions → AreTokensLowerable code.functions → AreTokensSpent code
    → IsTokenedForm shape code.texts code.functions each texts → IsNarrow (layout_in shape)
    → (functions_length each ≤ tokened_functions_length code.functions)
    × (length (all_bytes texts) ≤ most_print * all_tokened_computes code.functions)

-- the law that the assembler code of a program with tokens takes no more words than its forms tell, its constants included
abbrev pub TakeFewWords : Type 0
TakeFewWords =
    (shape : Shape) (code : TokenedProgram) (texts : List (List ℕ)) (each : List Lines)
    → AreLowerable (table_of shape) (bare_program code).functions → AreTokensLowerable code.functions → AreTokensSpent code
    → IsTokenedForm shape code.texts code.functions each texts → IsNarrow (layout_in shape)
    → (functions_length each + string_words * all_tokened_prints code.functions
    ≤ most_parameters * length code.functions + all_tokened_words code.functions)
    × (length (all_bytes texts) ≤ most_print * all_tokened_prints code.functions)

-- how many values a function with so many variables and slots names at most: behind both come temporaries, one for each argument
-- of a call
abbrev pub most_values_of : ℕ → ℕ → ℕ
most_values_of variables slots = variables + slots + most_parameters

-- the law that the assembler code of a program with tokens names no more values than its variables, its slots and its temporaries
abbrev pub HaveFewValues : Type 0
HaveFewValues =
    (shape : Shape) (code : TokenedProgram) (texts : List (List ℕ)) (each : List Lines)
    → AreLowerable (table_of shape) (bare_program code).functions → AreTokensSpent code
    → IsTokenedForm shape code.texts code.functions each texts → (variables slots : ℕ)
    → AllHaveVariablesBelow variables (bare_program code).functions → AllHaveSlotsBelow slots code.functions
    → HaveValuesBelow (most_values_of variables slots) each
