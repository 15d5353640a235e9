-- What counted code owes: each reference that it owns is spent once on each path, and lent variables are read alone.
use Rattle.std.specs.Prelude.{◌≡◌, ◌⊎◌, ℕ, zero, suc, ◌+◌, ◌<◌, Bool, true, false, not, List, [], ◌∷◌, ◌++◌, length, filter, Option, Some, None, if◌then◌else◌, slice_get}
use Rattle.kk_syntax.specs.declared.program.Form.{Form}
use Rattle.kk_syntax.specs.declared.program.Form.TheVariants.{Call}
use Rattle.kk_syntax.specs.Shapes.{is_among}
use Rattle.kk_syntax.specs.PositionsOf.{PositionTable, is_lent}
use Rattle.kk_counted.specs.CountedCodes.{Counted, give, tail_call, case, compute, inside, read, open_cell, if_unique, dup, drop, CountedArms, no_arm, arm, CountedFunction, CountedProgram}

-- ---- lists of variables

abbrev pub total : (ℕ → ℕ) → List ℕ → ℕ
total weight [] = 0
total weight (x ∷ xs) = weight x + total weight xs

-- two lists have the same variables, each as often: their sums are equal, whatever a variable weighs
abbrev pub AreEven : List ℕ → List ℕ → Type 0
AreEven xs ys = (weight : ℕ → ℕ) → total weight xs ≡ total weight ys

abbrev pub AllAmong : List ℕ → List ℕ → Type 0
AllAmong [] ys = Unit {0}
AllAmong (x ∷ xs) ys = (is_among ys x ≡ true) × AllAmong xs ys

-- none of the variables is among others
abbrev pub AreFresh : List ℕ → List ℕ → Type 0
AreFresh [] ys = Unit {0}
AreFresh (x ∷ xs) ys = (is_among ys x ≡ false) × AreFresh xs ys

-- no variable occurs twice
abbrev pub AreApart : List ℕ → Type 0
AreApart [] = Unit {0}
AreApart (x ∷ xs) = (is_among xs x ≡ false) × AreApart xs

-- those at some positions, which are counted from a first one on
abbrev pub at_positions : {A : Type 0} → (ℕ → Bool) → ℕ → List A → List A
at_positions takes next [] = []
at_positions takes next (x ∷ xs) =
    if takes next then x ∷ at_positions takes (suc next) xs else at_positions takes (suc next) xs

-- so many numbers from a first one on
abbrev pub numbers_from : ℕ → ℕ → List ℕ
numbers_from next zero = []
numbers_from next (suc count) = next ∷ numbers_from (suc next) count

-- what a block leaves, if it is one inside of a function
abbrev pub left_by : Option (List ℕ) → List ℕ
left_by None = []
left_by (Some left) = left

-- ---- code, by the positions that are lent and the functions that are called

module _ (positions : PositionTable) (functions : List CountedFunction) where
  abbrev pub is_owned : ℕ → ℕ → Bool
  is_owned f i = not (is_lent positions f i)

  -- the arguments that a form uses up, and those that it is lent
  abbrev pub used_by : Form → List ℕ → List ℕ
  used_by (Call f) arguments = at_positions (is_owned f) 0 arguments
  used_by _ arguments = arguments

  abbrev pub lent_by : Form → List ℕ → List ℕ
  lent_by (Call f) arguments = at_positions (is_lent positions f) 0 arguments
  lent_by _ arguments = []

  -- a function is called with as many arguments as it has parameters
  abbrev pub HasAsMany : ℕ → List ℕ → Type 0
  HasAsMany f arguments =
      (function : CountedFunction) → slice_get functions f ≡ Some function → function.parameters ≡ length arguments

  abbrev pub FitsForm : Form → List ℕ → Type 0
  FitsForm (Call f) arguments = HasAsMany f arguments
  FitsForm _ arguments = Unit {0}

  -- A code spends what it owns: by the variables that the function is lent; those that have just been read, whose cells are
  -- still counted, and may be duplicated; what the block leaves to the code behind it, none in tail position; and what is
  -- owned now. Each clause takes the owned variables in any order.
  abbrev mutual
    pub Spends : List ℕ → List ℕ → Option (List ℕ) → List ℕ → Counted → Type 0
    Spends lent readable left owned (give x) = AreEven owned (x ∷ left_by left)
    Spends lent readable left owned (tail_call f arguments) =
        (left ≡ None) × ((HasAsMany f arguments)
        × (AllAmong (lent_by (Call f) arguments) lent × AreEven owned (used_by (Call f) arguments)))
    Spends lent readable left owned (case x decisions arms) =
        (now : List ℕ) × (AreEven owned now × ((is_among (lent ++ now) x ≡ true) × SpendsAll lent left now arms))
    Spends lent readable left owned (compute x form arguments rest) =
        (kept : List ℕ) × (AreEven owned (used_by form arguments ++ kept)
        × (AllAmong (lent_by form arguments) (lent ++ kept) × (FitsForm form arguments
        × ((is_among kept x ≡ false) × ((is_among lent x ≡ false) × Spends lent [] left (x ∷ kept) rest)))))
    Spends lent readable left owned (inside x block rest) =
        (now : List ℕ) × ((kept : List ℕ) × (AreEven owned now × ((is_among kept x ≡ false) × ((is_among lent x ≡ false)
        × (Spends lent [] (Some kept) now block × Spends lent [] left (x ∷ kept) rest)))))
    Spends lent readable left owned (read x c fields rest) =
        (now : List ℕ) × (AreEven owned now × (AreFresh fields now
        × (((is_among lent x ≡ true) ⊎ ((is_among now x ≡ true) × AreFresh fields lent)) × Spends lent fields left now rest)))
    Spends lent readable left owned (open_cell x c fields used rest) =
        (kept : List ℕ) × (AreEven owned (x ∷ kept) × (AreApart fields × (AreFresh fields kept × (AreFresh fields lent
        × Spends lent [] left (filter (is_among used) fields ++ kept) rest))))
    Spends lent readable left owned (if_unique x c fields used rest) =
        (kept : List ℕ) × (AreEven owned (x ∷ kept) × (AreApart fields × (AreFresh fields kept × (AreFresh fields lent
        × Spends lent [] left (filter (is_among used) fields ++ kept) rest))))
    Spends lent readable left owned (dup x rest) =
        (now : List ℕ) × (AreEven owned now × ((is_among (lent ++ (readable ++ now)) x ≡ true)
        × Spends lent readable left (x ∷ now) rest))
    Spends lent readable left owned (drop x rest) =
        (kept : List ℕ) × (AreEven owned (x ∷ kept) × Spends lent [] left kept rest)

    pub SpendsAll : List ℕ → Option (List ℕ) → List ℕ → CountedArms → Type 0
    SpendsAll lent left owned no_arm = Unit {0}
    SpendsAll lent left owned (arm body rest) = Spends lent [] left owned body × SpendsAll lent left owned rest

  -- A function spends its owned parameters. Its lent variables are its lent parameters, and fields of the cells that lent
  -- variables name.
  abbrev pub SpendsParameters : ℕ → CountedFunction → Type 0
  SpendsParameters f function =
      (lent : List ℕ) × (((i : ℕ) → i < function.parameters → is_among lent i ≡ is_lent positions f i)
      × Spends lent [] None (at_positions (is_owned f) 0 (numbers_from 0 function.parameters)) function.body)

-- each function of a program spends what it owns, and `main`, which has no parameters, is there
pub record IsSpent (positions : PositionTable) (program : CountedProgram) : Type 0 where
  pub each : (f : ℕ) (function : CountedFunction) → slice_get program.functions f ≡ Some function
      → SpendsParameters positions program.functions f function
  pub main : (function : CountedFunction) × ((slice_get program.functions program.main ≡ Some function) × (function.parameters ≡ 0))
