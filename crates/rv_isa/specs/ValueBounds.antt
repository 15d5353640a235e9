-- Assembler code that names few values: each value is a number below this one. So a function has no more values than that.
use Rattle.std.specs.Prelude.{◌<◌, ℕ, List, Option, Some, None}
use Rattle.std.specs.List.{AllByRecursion}
use Rattle.rv_isa.specs.AsmCode.{Line, Lines}

abbrev pub AreValuesBelow : ℕ → List ℕ → Type 0
AreValuesBelow most values = AllByRecursion (λ (v : ℕ). v < most) values

-- the value that a line writes
abbrev pub IsWrittenBelow : ℕ → Option ℕ → Type 0
IsWrittenBelow most None = Unit {0}
IsWrittenBelow most (Some v) = v < most

-- what a line reads and writes
abbrev pub IsLineBelow : ℕ → Line → Type 0
IsLineBelow most line = AreValuesBelow most line.args × IsWrittenBelow most line.into

abbrev pub AreLinesBelow : ℕ → List Line → Type 0
AreLinesBelow most lines = AllByRecursion (IsLineBelow most) lines

-- the parameters of a function, and the values of its lines
abbrev pub HasValuesBelow : ℕ → Lines → Type 0
HasValuesBelow most function = AreValuesBelow most function.params × AreLinesBelow most function.code

abbrev pub HaveValuesBelow : ℕ → List Lines → Type 0
HaveValuesBelow most functions = AllByRecursion (HasValuesBelow most) functions
