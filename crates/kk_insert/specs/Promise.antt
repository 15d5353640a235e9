-- What a program in core form must be, so that dups and drops can be inserted.
use Rattle.std.specs.Prelude.{◌≡◌, ◌≤◌, ℕ, Bool, true, false, List, map, length, Some, slice_get}
use Rattle.kk_syntax.specs.declared.program.Form.{Form}
use Rattle.kk_syntax.specs.declared.program.Form.TheVariants.{Call}
use Rattle.kk_syntax.specs.PositionsOf.{PositionTable}
use Rattle.kk_core.specs.Codes.{Code, give, tail_call, case, compute, use_of, unpack, inside, Arms, patterns_of, no_arm, arm, FunctionCode, ProgramCode}
use Rattle.kk_core.specs.Decisions.{AreOrderly}
use Rattle.kk_core.specs.Sizes.{IsOrdered, forms, most_forms}
use Rattle.kk_counted.specs.Spending.{AllAmong}
use Rattle.kk_insert.specs.Insertion.{lends, lent_of}

module _ (positions : PositionTable) (functions : List FunctionCode) where
  -- a function that is called is there, and is called with as many arguments as it has parameters
  abbrev pub TakesAsMany : ℕ → List ℕ → Type 0
  TakesAsMany f arguments =
      (function : FunctionCode) × ((slice_get functions f ≡ Some function) × (function.parameters ≡ length arguments))

  abbrev pub FormTakes : Form → List ℕ → Type 0
  FormTakes (Call f) arguments = TakesAsMany f arguments
  FormTakes _ arguments = Unit {0}

  -- By the lent variables of a function: its tail calls stand where no block waits, and lend only variables that it is lent
  -- itself, since it is gone when they run; and all calls are of functions that are there, with as many arguments as they have
  -- parameters.
  abbrev mutual
    pub LendsOn : List ℕ → Bool → Code → Type 0
    LendsOn lent tail (give x) = Unit {0}
    LendsOn lent tail (tail_call f arguments) =
        (tail ≡ true) × (AllAmong (lends positions (Call f) arguments) lent × TakesAsMany f arguments)
    LendsOn lent tail (case x decisions arms) = AllLendOn lent tail arms
    LendsOn lent tail (compute x form arguments rest) = FormTakes form arguments × LendsOn lent tail rest
    LendsOn lent tail (use_of x rest) = LendsOn lent tail rest
    LendsOn lent tail (unpack x c fields rest) = LendsOn lent tail rest
    LendsOn lent tail (inside x block rest) = LendsOn lent false block × LendsOn lent tail rest

    pub AllLendOn : List ℕ → Bool → Arms → Type 0
    AllLendOn lent tail no_arm = Unit {0}
    AllLendOn lent tail (arm pattern body rest) = LendsOn lent tail body × AllLendOn lent tail rest

  -- A function: its variables are in order, its forms are no more than the limit, and its tail calls lend on what it is lent.
  pub record IsFunctionInsertable (f : ℕ) (function : FunctionCode) : Type 0 where
    pub ordered : IsOrdered function
    pub small : forms function.body ≤ most_forms
    pub tails : LendsOn (lent_of positions f function) true function.body

-- a program: each of its functions, and `main` is there and has no parameters
pub record IsInsertable (positions : PositionTable) (code : ProgramCode) : Type 0 where
  pub each : (f : ℕ) (function : FunctionCode) → slice_get code.functions f ≡ Some function
      → IsFunctionInsertable positions code.functions f function
  pub main : (function : FunctionCode) × ((slice_get code.functions code.main ≡ Some function) × (function.parameters ≡ 0))

-- ---- what is asked of the positions alone: tail calls lend only what is lent

module _ (positions : PositionTable) (lent : List ℕ) where
  abbrev mutual
    pub LendsTails : Code → Type 0
    LendsTails (give x) = Unit {0}
    LendsTails (tail_call f arguments) = AllAmong (lends positions (Call f) arguments) lent
    LendsTails (case x decisions arms) = AllLendTails arms
    LendsTails (compute x form arguments rest) = LendsTails rest
    LendsTails (use_of x rest) = LendsTails rest
    LendsTails (unpack x c fields rest) = LendsTails rest
    LendsTails (inside x block rest) = LendsTails block × LendsTails rest

    pub AllLendTails : Arms → Type 0
    AllLendTails no_arm = Unit {0}
    AllLendTails (arm pattern body rest) = LendsTails body × AllLendTails rest

-- in each function of a program
abbrev pub TailsLendOn : PositionTable → ProgramCode → Type 0
TailsLendOn positions code =
    (f : ℕ) (function : FunctionCode) → slice_get code.functions f ≡ Some function
    → LendsTails positions (lent_of positions f function) function.body

-- ---- what is asked of the decisions: each case has an arm for each row

abbrev mutual
  pub HasRows : Code → Type 0
  HasRows (give x) = Unit {0}
  HasRows (tail_call f arguments) = Unit {0}
  HasRows (case x decisions arms) = AreOrderly decisions (length (patterns_of arms)) × HaveRows arms
  HasRows (compute x form arguments rest) = HasRows rest
  HasRows (use_of x rest) = HasRows rest
  HasRows (unpack x c fields rest) = HasRows rest
  HasRows (inside x block rest) = HasRows block × HasRows rest

  pub HaveRows : Arms → Type 0
  HaveRows no_arm = Unit {0}
  HaveRows (arm pattern body rest) = HasRows body × HaveRows rest

-- in each function of a program
abbrev pub AllHaveRows : ProgramCode → Type 0
AllHaveRows code = (f : ℕ) (function : FunctionCode) → slice_get code.functions f ≡ Some function → HasRows function.body

-- ---- what is asked of the table of positions: it tells as many of each function as the function has parameters

abbrev pub TellsParameters : PositionTable → ProgramCode → Type 0
TellsParameters positions code = map length positions ≡ map (λ (function : FunctionCode). function.parameters) code.functions
