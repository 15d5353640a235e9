-- Functions of a program with tokens, as they are lowered one after the other.
use Rattle.std.specs.Prelude.{◌≡◌, ℕ, ◌+◌, ◌*◌, ◌≤◌, List, ◌++◌, length, Some, slice_get}
use Rattle.kk_counted.specs.BareForms.{bare_function}
use Rattle.kk_counted.specs.CountedCodes.{CountedFunction}
use Rattle.kk_counted.specs.TokenedWords.{tokened_prints, all_tokened_prints}
use Rattle.kk_counted.specs.TokenLowerable.{slots_in}
use Rattle.kk_counted.specs.TokenedCodes.{TokenedFunction}
use Rattle.kk_counted.specs.declared.shape.Shape.{Shape}
use Rattle.rv_isa.specs.AsmCode.{Lines}
use Rattle.rv_lower.specs.Lowered.{returns, from_to}
use Rattle.rv_lower.specs.Written.{most_print}
use Rattle.cell_runtime.specs.Operations.{all_bytes}
use Rattle.rv_cells.specs.declared.standing.Standing.{Standing}
use Rattle.rv_cells.specs.Marking.{function_marks, holds_in}
use Rattle.rv_cells.specs.Tables.{table_of, layout_in}
use Rattle.rv_cells.specs.TokenedLines.{Keeps, CodeLines}
use Rattle.rv_tokens.specs.Written.{Facts, setting_in}

-- what is known of a function of this number
abbrev pub facts_for : Shape → List (List ℕ) → ℕ → CountedFunction → Standing → Facts
facts_for shape literals f function standing = record {
  literals = literals;
  layout = layout_in shape;
  holds = holds_in (function_marks (table_of shape) f function);
  standing = standing;
}

-- how many variables the function of a number has
abbrev pub variables_for : Shape → ℕ → TokenedFunction → ℕ
variables_for shape f function = length (function_marks (table_of shape) f (bare_function function))

-- The lines of the function of a number, by its marks, with its slots behind its variables and its temporaries behind these, where
-- these constant bytes stand.
pub record IsTokenedWritten (shape : Shape) (literals texts : List (List ℕ)) (f : ℕ) (function : TokenedFunction) (lines : Lines)
    : Type 0 where
  pub params : lines.params ≡ from_to 0 function.parameters
  pub labels : ℕ
  pub standing : Standing
  pub keeps : Keeps standing function.body
  pub code : CodeLines
      (setting_in (facts_for shape literals f (bare_function function) standing)
      (variables_for shape f function + slots_in function.body) texts)
      (variables_for shape f function) returns 0 function.body lines.code labels

-- a function was lowered, and texts were added behind those that stood there
pub record LoweredTokened (shape : Shape) (literals : List (List ℕ)) (f : ℕ) (function : TokenedFunction) (lines : Lines)
    (old new : List (List ℕ)) : Type 0 where
  pub more : List (List ℕ)
  pub texts : new ≡ old ++ more
  pub few : length (all_bytes more) ≤ most_print * tokened_prints function.body
  pub is : (later : List (List ℕ)) → IsTokenedWritten shape literals (new ++ later) f function lines

-- functions were lowered, and these are their texts: they are lowered however many texts come later
pub record LoweredTokenedFunctions (shape : Shape) (literals : List (List ℕ)) (functions : List TokenedFunction)
    (each : List Lines) (texts : List (List ℕ)) : Type 0 where
  pub as_many : length each ≡ length functions
  pub few : length (all_bytes texts) ≤ most_print * all_tokened_prints functions
  pub are : (later : List (List ℕ)) (f : ℕ) (function : TokenedFunction) → slice_get functions f ≡ Some function
      → (lines : Lines) × ((slice_get each f ≡ Some lines) × IsTokenedWritten shape literals (texts ++ later) f function lines)
