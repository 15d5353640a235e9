-- A comparison and the case on its value: the branch that both are where no other code names that value.
use Rattle.std.specs.Prelude.{◌≡◌, ℕ, ◌==◌, ◌||◌, Bool, true, false, List, [], ◌∷◌, Option, Some, None}
use Rattle.kk_syntax.specs.declared.operator.BinaryOperator.{BinaryOperator}
use Rattle.kk_syntax.specs.declared.operator.BinaryOperator.TheVariants as Compare
use Rattle.kk_syntax.specs.declared.program.Form.{Form}
use Rattle.kk_syntax.specs.declared.program.Form.TheVariants.{Binary}
use Rattle.kk_syntax.specs.Shapes.{is_among}
use Rattle.kk_core.specs.Truths.{truth_decisions}
use Rattle.kk_counted.specs.BareForms.{bare}
use Rattle.kk_counted.specs.CountedCodes.{Counted, give, tail_call, case, compute, inside, read, open_cell, if_unique, dup, drop}
use Rattle.kk_counted.specs.CountedCodes.{CountedArms, no_arm, arm}
use Rattle.kk_counted.specs.TokenedCodes.{Tokened, TokenedArms}
use Rattle.kk_counted.specs.TokenedForms.{TokenedMove}
use Rattle.rv_isa.specs.declared.asm.Condition.TheVariants.{Equal, NotEqual, Less, GreaterEqual}
use Rattle.rv_cells.specs.declared.compare.Branching.{Branching}

-- ---- branches

-- the condition that holds where a comparison of two variables does not
abbrev pub branch_unless : BinaryOperator → ℕ → ℕ → Option Branching
branch_unless Compare.Equal a b = Some (record { condition = NotEqual; first = a; second = b })
branch_unless Compare.NotEqual a b = Some (record { condition = Equal; first = a; second = b })
branch_unless Compare.Less a b = Some (record { condition = GreaterEqual; first = a; second = b })
branch_unless Compare.GreaterEqual a b = Some (record { condition = Less; first = a; second = b })
branch_unless Compare.Greater a b = Some (record { condition = GreaterEqual; first = b; second = a })
branch_unless Compare.LessEqual a b = Some (record { condition = Less; first = b; second = a })
branch_unless _ a b = None

-- where the case behind a form is to do its work: only a comparison is such a form
abbrev pub branch_of : Form → List ℕ → Bool → Option Branching
branch_of (Binary operator) (a ∷ b ∷ []) true = branch_unless operator a b
branch_of _ _ _ = None

-- ---- names

-- whether a code uses a variable
abbrev mutual
  pub names : ℕ → Counted → Bool
  names x (give y) = y == x
  names x (tail_call f arguments) = is_among arguments x
  names x (case y decisions arms) = (y == x) || name_arms x arms
  names x (compute y form arguments rest) = is_among arguments x || names x rest
  names x (inside y block rest) = names x block || names x rest
  names x (read y c fields rest) = (y == x) || names x rest
  names x (open_cell y c fields used rest) = (y == x) || names x rest
  names x (if_unique y c fields used rest) = (y == x) || names x rest
  names x (dup y rest) = (y == x) || names x rest
  names x (drop y rest) = (y == x) || names x rest

  pub name_arms : ℕ → CountedArms → Bool
  name_arms x no_arm = false
  name_arms x (arm body rest) = names x body || name_arms x rest

-- whether a step uses a variable, and one of some steps
abbrev pub step_names : ℕ → TokenedMove → Bool
step_names x (TokenedMove.computes y form arguments others) = is_among arguments x
step_names x (TokenedMove.runs y block) = names x (bare block)
step_names x (TokenedMove.reads y c fields) = y == x
step_names x (TokenedMove.opens y c fields used z) = y == x
step_names x (TokenedMove.opens_unique y c fields used z) = y == x
step_names x (TokenedMove.dups y) = y == x
step_names x (TokenedMove.drops y) = y == x
step_names x (TokenedMove.fills y z c first arguments kept others) = is_among (first ∷ arguments) x
step_names x (TokenedMove.frees y) = false
step_names x (TokenedMove.nulls y) = false
step_names x (TokenedMove.moves to of) = false
step_names x (TokenedMove.holds y) = false
step_names x (TokenedMove.unholds y) = false

abbrev pub steps_name : ℕ → List TokenedMove → Bool
steps_name x [] = false
steps_name x (move ∷ moves) = step_names x move || steps_name x moves

-- whether code with tokens does so, but for a first step that gives a variable up
abbrev pub names_behind : ℕ → Tokened → Bool
names_behind x (Tokened.drop y rest) = names x (bare rest)
names_behind x code = names x (bare code)

abbrev pub arms_name_behind : ℕ → TokenedArms → Bool
arms_name_behind x TokenedArms.no_arm = false
arms_name_behind x (TokenedArms.arm body rest) = names_behind x body || arms_name_behind x rest

-- Behind a variable's comparison only variables of types without cells are given up, which is no line, before a case on the
-- variable's truth; and each arm may give the variable up at once, and else does not name it.
abbrev pub IsTested : (ℕ → Bool) → ℕ → Tokened → Type 0
IsTested holds x (Tokened.drop y rest) = (holds y ≡ false) × IsTested holds x rest
IsTested holds x (Tokened.case y decisions arms) =
    (y ≡ x) × (decisions ≡ truth_decisions) × (arms_name_behind x arms ≡ false)
IsTested holds x _ = ⊥

-- so it is where the case is to do the work of the form
abbrev pub MayJoin : (ℕ → Bool) → Bool → ℕ → Tokened → Type 0
MayJoin holds true x rest = IsTested holds x rest
MayJoin holds false x rest = Unit {0}

-- steps only give up variables of types without cells
abbrev pub AreNoLines : (ℕ → Bool) → List TokenedMove → Type 0
AreNoLines holds [] = Unit {0}
AreNoLines holds (TokenedMove.drops y ∷ moves) = (holds y ≡ false) × AreNoLines holds moves
AreNoLines holds (_ ∷ moves) = ⊥

-- a step computes a variable by a comparison that is the opposite of a branch
abbrev pub IsCompared : TokenedMove → ℕ → Branching → Type 0
IsCompared (TokenedMove.computes y form arguments others) x branch = (y ≡ x) × (branch_of form arguments true ≡ Some branch)
IsCompared _ x branch = ⊥

-- so the step and the code behind it are that branch
abbrev pub IsBranchBetween : (ℕ → Bool) → TokenedMove → Tokened → Branching → Type 0
IsBranchBetween holds (TokenedMove.computes x form arguments others) last branch =
    (branch_of form arguments true ≡ Some branch) × IsTested holds x last
IsBranchBetween holds _ last branch = ⊥
