-- The form of the assembler code that a program with tokens is lowered to.
use Rattle.std.specs.Prelude.{◌≡◌, ℕ, ◌*◌, ◌≤◌, List, length}
use Rattle.kk_counted.specs.TokenedCodes.{TokenedFunction}
use Rattle.kk_counted.specs.TokenedWords.{all_tokened_prints}
use Rattle.kk_counted.specs.declared.shape.Shape.{Shape}
use Rattle.rv_isa.specs.AsmCode.{Lines}
use Rattle.rv_lower.specs.Written.{most_print, texts_of}
use Rattle.cell_runtime.specs.Operations.{all_bytes}
use Rattle.rv_cells.specs.Tables.{table_of, layout_in}
use Rattle.rv_cells.specs.TokenedLines.{AreFunctionsOf}

-- Each function is lowered, in their order, with its variables as its bare form marks them; and constant bytes are few.
pub record IsTokenedForm (shape : Shape) (literals : List (List ℕ)) (functions : List TokenedFunction) (each : List Lines)
    (texts : List (List ℕ)) : Type 0 where
  pub lowered : AreFunctionsOf (layout_in shape) (texts_of literals texts) (table_of shape) functions each
  pub as_many : length each ≡ length functions
  pub few_bytes : length (all_bytes texts) ≤ most_print * all_tokened_prints functions
