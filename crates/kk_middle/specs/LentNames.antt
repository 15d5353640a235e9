-- That the numbers of lent variables keep their meaning on the way to the tail calls of a body.
use Rattle.std.specs.Prelude.{◌≡◌, ℕ, Bool, true, false, if◌then◌else◌, List, [], ◌∷◌, length, Some, slice_get}
use Rattle.kk_syntax.specs.Covered.{Each}
use Rattle.kk_syntax.specs.OwnedPositions.{is_lent_variable, lent_in_row, lent_below, owned_in}
use Rattle.kk_syntax.specs.PositionsOf.{PositionTable}
use Rattle.kk_syntax.specs.Programs.{FunctionTree, ProgramTree}
use Rattle.kk_syntax.specs.Shapes.{bound, bound_by, is_among, TailWalk, tail_walked, tail_walked_rows}
use Rattle.kk_syntax.specs.Trees.{Tree, Rows}

-- none of some variables is lent
abbrev pub AreOthers : List ℕ → List ℕ → Type 0
AreOthers xs lent = (x : ℕ) → is_among xs x ≡ true → is_among lent x ≡ false

-- some variables that are bound where others are lent
pub record Bound : Type 0 where
  pub variables : List ℕ
  pub lent : List ℕ

-- The variables that are bound on the way to the tail calls of an expression, by its lent variables. In a row of a match on a
-- lent variable the variables of the pattern are lent too, so these are left out.
abbrev pub to_bound : TailWalk (List ℕ) Bool Bound
to_bound = record {
  at = λ lent part. [];
  at_binder = λ lent binder. record { variables = bound_by binder; lent = lent } ∷ [];
  at_row = λ lent opened pattern. if opened then [] else record { variables = bound pattern; lent = lent } ∷ [];
  told = is_lent_variable;
  enter = lent_in_row;
}

-- none of them has the number of a lent one
abbrev pub AreApart : List Bound → Type 0
AreApart = Each (λ b. AreOthers b.variables b.lent)

abbrev pub KeepsLent : List ℕ → Tree → Type 0
KeepsLent lent e = AreApart (tail_walked to_bound lent e)

-- so in rows, where it is told whether their match is on a lent variable
abbrev pub KeepLent : List ℕ → Bool → Rows → Type 0
KeepLent lent opened rows = AreApart (tail_walked_rows to_bound lent opened rows)

-- so in each function of a program, by the positions that it is lent
abbrev pub AllKeepLent : ProgramTree → PositionTable → Type 0
AllKeepLent program positions =
    (f : ℕ) (function : FunctionTree) → slice_get program.functions f ≡ Some function
    → KeepsLent (lent_below (owned_in positions f) (length function.parameters)) function.body
