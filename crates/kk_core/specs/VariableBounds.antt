-- How many variables the functions of core code have at most.
use Rattle.std.specs.Prelude.{◌≡◌, ◌≤◌, ℕ, Some, slice_get}
use Rattle.kk_core.specs.Codes.{ProgramCode, FunctionCode}

-- no function of a program has more of them
abbrev pub HaveVariablesAtMost : ℕ → ProgramCode → Type 0
HaveVariablesAtMost most code =
    (f : ℕ) (function : FunctionCode) → slice_get code.functions f ≡ Some function → function.variables ≤ most
