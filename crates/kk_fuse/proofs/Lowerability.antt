-- Fused code can be lowered where the code can that it is made of, and spends as little.
use Rattle.std.proofs.Common.{◌≡◌, ℕ, Bool, List, ◌∷◌, ◌++◌, map, Some, arith, refl, subst}
use Rattle.kk_counted.specs.Arms.{HasArms}
use Rattle.kk_counted.specs.CountBounds.{EachHasAnArm, SpendsAtMost, AllSpendAtMost}
use Rattle.kk_counted.specs.CountedCodes.{Counted, CountedFunction, CountedProgram}
use Rattle.kk_counted.specs.FunctionSizes.{HasVariablesBelow, AllHaveVariablesBelow}
use Rattle.kk_counted.specs.Spending.{numbers_from}
use Rattle.kk_counted.specs.Lowerable.{given_by, BlocksGive, HasArities, AreNumbered, AreLowerable}
use Rattle.kk_counted.specs.Marks.{CellMarks, HasMark, IsMarked}
use Rattle.kk_counted.proofs.GainBounds.{more_spent}
use Rattle.kk_dropspec.proofs.ChangedFunctions.{found_before}
use Rattle.kk_dropspec.proofs.Lowerability.{Leaves, numbers_stay, arms_stay, changed_marked, changed_are, changed_spends}
use Rattle.kk_fuse.specs.Fused.{without_drop, fuse, fused_function, fused_program}
use Rattle.kk_fuse.proofs.DropRemoval.{by_without, Without, fuse_changes}

-- ---- marks

module _ (marks : CellMarks) (holds : ℕ → Bool) (result : Bool) where
  -- the code without a drop is marked where the code is
  abbrev MarkedToo : Counted → Counted → Type 0
  MarkedToo code less =
      (bound : List ℕ) (given : Bool) → HasMark marks holds result bound given code → HasMark marks holds result bound given less

  -- so it is, by each form
  less_marked : (x : ℕ) (code less : Counted) → without_drop x code ≡ Some less → MarkedToo code less
  less_marked x =
      by_without x MarkedToo (λ rest bound given has. has.1)
      (λ y rest less apart later bound given has. (has.0, later bound given has.1))
      (λ y rest less apart later bound given has. (has.0, later bound given has.1))
      (λ y c fields rest less apart named later bound given has. (has.0, later (fields ++ bound) given has.1))
      (λ y form arguments rest less apart named plain later bound given has.
      (has.0, (has.1.0, later (y ∷ bound) given has.1.1)))

-- ---- numbers

module _ (base : ℕ) where
  -- the code without a drop is numbered where the code is
  abbrev NumberedToo : Counted → Counted → Type 0
  NumberedToo code less = (bound : List ℕ) → AreNumbered base bound code → AreNumbered base bound less

  -- so it is, by each form
  less_numbered : (x : ℕ) (code less : Counted) → without_drop x code ≡ Some less → NumberedToo code less
  less_numbered x =
      by_without x NumberedToo (λ rest bound are. are) (λ y rest less apart later bound are. later bound are)
      (λ y rest less apart later bound are. later bound are)
      (λ y c fields rest less apart named later bound are. (are.0, later (fields ++ bound) are.1))
      (λ y form arguments rest less apart named plain later bound are. (are.0, (are.1.0, later (y ∷ bound) are.1.1)))

-- ---- arms

-- the code without a drop has its arms
less_has_arms : (x : ℕ) (code less : Counted) → without_drop x code ≡ Some less → HasArms code → HasArms less
less_has_arms x =
    by_without x (λ code less. HasArms code → HasArms less) (λ rest has. has) (λ y rest less apart later has. later has)
    (λ y rest less apart later has. later has) (λ y c fields rest less apart named later has. later has)
    (λ y form arguments rest less apart named plain later has. later has)

-- ---- blocks inside

-- the code without a drop gives the same variable
less_given : (x : ℕ) (code less : Counted) → without_drop x code ≡ Some less → given_by less ≡ given_by code
less_given x =
    by_without x (λ code less. given_by less ≡ given_by code) (λ rest. refl) (λ y rest less apart later. later)
    (λ y rest less apart later. later) (λ y c fields rest less apart named later. later)
    (λ y form arguments rest less apart named plain later. later)

-- each block inside of the code without a drop gives a value
less_gives : (x : ℕ) (code less : Counted) → without_drop x code ≡ Some less → BlocksGive code → BlocksGive less
less_gives x =
    by_without x (λ code less. BlocksGive code → BlocksGive less) (λ rest gives. gives)
    (λ y rest less apart later gives. later gives) (λ y rest less apart later gives. later gives)
    (λ y c fields rest less apart named later gives. later gives)
    (λ y form arguments rest less apart named plain later gives. later gives)

-- ---- arguments

-- the forms of the code without a drop have their arguments
less_arities : (x : ℕ) (code less : Counted) → without_drop x code ≡ Some less → HasArities code → HasArities less
less_arities x =
    by_without x (λ code less. HasArities code → HasArities less) (λ rest has. has) (λ y rest less apart later has. later has)
    (λ y rest less apart later has. later has) (λ y c fields rest less apart named later has. later has)
    (λ y form arguments rest less apart named plain later has. (has.0, later has.1))

-- ---- what is spent

-- each case of the code without a drop has an arm
less_arm : (x : ℕ) (code less : Counted) → without_drop x code ≡ Some less → EachHasAnArm code → EachHasAnArm less
less_arm x =
    by_without x (λ code less. EachHasAnArm code → EachHasAnArm less) (λ rest has. has)
    (λ y rest less apart later has. later has) (λ y rest less apart later has. later has)
    (λ y c fields rest less apart named later has. later has)
    (λ y form arguments rest less apart named plain later has. later has)

-- the code without a drop spends as little
less_spent : (x : ℕ) (code less : Counted) → without_drop x code ≡ Some less → (n : ℕ) → SpendsAtMost code n → SpendsAtMost less n
less_spent x =
    by_without x (λ code less. (n : ℕ) → SpendsAtMost code n → SpendsAtMost less n)
    (λ rest n most. more_spent rest most.0 n (omega (arith, most.1.0)) most.1.1)
    (λ y rest less apart later n most. (most.0, (most.1.0, later most.0 most.1.1)))
    (λ y rest less apart later n most. later n most)
    (λ y c fields rest less apart named later n most. later n most)
    (λ y form arguments rest less apart named plain later n most. (most.0, (most.1.0, later most.0 most.1.1)))

-- ---- fused code

leaves : Leaves Without
leaves =
    record {
      marks = less_marked;
      numbers = less_numbered;
      arms = less_has_arms;
      given = less_given;
      blocks = less_gives;
      arities = less_arities;
      some_arm = less_arm;
      spends = less_spent;
    }

-- fused code has its arms
pub has_arms : (code : Counted) → HasArms code → HasArms (fuse code)
has_arms code = arms_stay Without less_has_arms (fuse_changes code)

-- a fused function is marked where the function is
pub fused_marked : (marks : CellMarks) (holds : ℕ → Bool) (f : ℕ) (function : CountedFunction) → IsMarked marks holds f function
    → IsMarked marks holds f (fused_function function)
fused_marked = changed_marked Without leaves fuse fuse_changes

-- fused functions can be lowered where the functions can
pub fused_are : (table : CellMarks) (functions : List CountedFunction) → AreLowerable table functions
    → AreLowerable table (map fused_function functions)
fused_are = changed_are Without leaves fuse fuse_changes

-- a fused program spends as little
pub fused_spends : (program : CountedProgram) (n : ℕ) → AllSpendAtMost program n → AllSpendAtMost (fused_program program) n
fused_spends = changed_spends Without leaves fuse fuse_changes

-- and have no more variables
pub fused_variables : (most : ℕ) (functions : List CountedFunction) → AllHaveVariablesBelow most functions
    → AllHaveVariablesBelow most (map fused_function functions)
fused_variables most functions each f function there =
    let before = found_before fuse functions f function there in
    let own = each f before.0 before.1.0 in
    subst (HasVariablesBelow most) before.1.1
    (record {
      parameters = own.parameters;
      numbered = numbers_stay Without most (leaves.numbers most) (fuse_changes before.0.body)
          (numbers_from 0 before.0.parameters) own.numbered;
    })
