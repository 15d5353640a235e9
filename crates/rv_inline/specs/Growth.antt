-- How much longer code becomes by calls in line.
use Rattle.std.specs.Prelude.{◌≡◌, ◌≤◌, ◌+◌, ◌⊎◌, ℕ, List, [], ◌∷◌, Some, length, slice_get}
use Rattle.std.specs.List.{AllByRecursion}
use Rattle.rv_isa.specs.declared.asm.Action.TheVariants.{Call}
use Rattle.rv_isa.specs.AsmCode.{Line, Lines}
use Rattle.rv_isa.specs.Costs.{line_length, code_length}
use Rattle.rv_inline.specs.InLine.{IsLeaf, IsLeafCall, lines_for}

-- the most instructions that the code of a program grows by
abbrev pub most_growth : ℕ
most_growth = 4096

-- each line takes two values at most
abbrev pub AreShort : List Line → Type 0
AreShort lines = AllByRecursion (λ (line : Line). length line.args ≤ 2) lines

-- A line calls a leaf with this body and value, and the result goes to a value of the caller.
pub record IsCallOf (functions : List Lines) (line : Line) (body : List Line) (value into : ℕ) : Type 0 where
  pub function : ℕ
  pub leaf : Lines
  pub calls : line.action ≡ Call function
  pub gives : line.into ≡ Some into
  pub leaf_is : slice_get functions function ≡ Some leaf
  pub is_leaf : IsLeaf leaf body value
  pub passes : length line.args ≡ length leaf.params
  pub short : AreShort body

-- What a line of a function becomes: itself, or the lines in its place. Before it the code may grow by so many instructions, and behind
-- it by as many as are left.
pub record Becomes (functions : List Lines) (base : ℕ) (line : Line) (before : ℕ) (lines : List Line) (behind : ℕ) : Type 0 where
  pub is : (lines ≡ line ∷ []) ⊎ ((call : IsLeafCall functions base line) × (lines ≡ lines_for line call []))
  pub grows : code_length lines + behind ≤ line_length line + before
