-- Programs in counted form, as Rust holds them.
use Rattle.std.specs.Prelude.{◌≡◌, ℕ, List, [], map, length, Some, slice_get, slice_index_or}
use Rattle.kk_syntax.specs.PositionsOf.{PositionTable}
use Rattle.kk_counted.specs.declared.counted.CountedFun.{CountedFun}
use Rattle.kk_counted.specs.Arms.{HasArms}
use Rattle.kk_counted.specs.CountedCodes.{CountedFunction, CountedProgram}
use Rattle.kk_counted.specs.CountedForms.{block_code}
use Rattle.kk_counted.specs.Spending.{SpendsParameters}

-- functions have as many parameters as the table of positions tells
abbrev pub HaveParameters : PositionTable → List CountedFunction → Type 0
HaveParameters positions functions =
    (f : ℕ) (function : CountedFunction) → slice_get functions f ≡ Some function
    → function.parameters ≡ length (slice_index_or positions f [])

-- a function spends its parameters, whatever the functions are that it calls
abbrev pub IsJudged : PositionTable → ℕ → CountedFunction → Type 0
IsJudged positions f function =
    (functions : List CountedFunction) → HaveParameters positions functions → SpendsParameters positions functions f function

abbrev pub function_of : CountedFun → CountedFunction
function_of fun = record { parameters = fun.parameters; body = block_code fun.body }

-- the function of an instance: it has the parameters that the table of positions tells, and spends those that it owns; each
-- case has an arm for each row
pub record IsFunctionOf (positions : PositionTable) (f : ℕ) (fun : CountedFun) : Type 0 where
  pub instance : fun.instance ≡ f
  pub parameters : fun.parameters ≡ length (slice_index_or positions f [])
  pub judged : IsJudged positions f (function_of fun)
  pub arms : HasArms (block_code fun.body)

-- each function is that of the instance of its number
abbrev pub AreFunctions : PositionTable → List CountedFun → Type 0
AreFunctions positions functions =
    (f : ℕ) (fun : CountedFun) → slice_get functions f ≡ Some fun → IsFunctionOf positions f fun

-- The program of some functions and string literals. The first function is `main`.
abbrev pub program_of : List CountedFun → List (List ℕ) → CountedProgram
program_of functions texts = record { functions = map function_of functions; texts = texts; main = 0 }
