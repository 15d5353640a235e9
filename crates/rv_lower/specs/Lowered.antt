-- The lines where a code ends, and the parameters of a function.
use Rattle.std.specs.Prelude.{ℕ, zero, suc, ◌+◌, List, [], ◌∷◌, ◌++◌}
use Rattle.rv_isa.specs.declared.asm.Action.TheVariants.{Jump, TailCall, Return}
use Rattle.rv_isa.specs.AsmCode.{Line}
use Rattle.rv_lower.specs.Lines.{copies_to, acts, copies, temporaries}

-- where the value of a block goes: to the caller; or to a variable, and the code goes on at a label
pub data Goal : Type 0 where
  returns : Goal
  joins : (variable : ℕ) → (label : ℕ) → Goal

abbrev pub goal_lines : Goal → ℕ → List Line
goal_lines returns x = acts Return (x ∷ []) ∷ []
goal_lines (joins y label) x = copies_to x y ∷ acts (Jump label) [] ∷ []

-- a tail call
abbrev pub tail_lines : ℕ → ℕ → List ℕ → List Line
tail_lines base f arguments = copies base arguments ++ acts (TailCall f) (temporaries base arguments) ∷ []

-- numbers one after the other
abbrev pub from_to : ℕ → ℕ → List ℕ
from_to x zero = []
from_to x (suc n) = x ∷ from_to (x + 1) n
