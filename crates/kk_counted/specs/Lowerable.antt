-- Counted code that can be lowered to assembler code: its variables are numbered in order and few, each case has its arms, each
-- block inside gives a value, and each form has as many arguments as it takes.
use Rattle.std.specs.Prelude.{◌≡◌, ℕ, ◌<◌, ◌≤◌, Bool, false, List, [], ◌∷◌, ◌++◌, length, Option, Some, None, slice_get}
use Rattle.kk_syntax.specs.declared.program.Form.{Form}
use Rattle.kk_syntax.specs.declared.program.Form.TheVariants.{Unary, Binary, Print, Call}
use Rattle.kk_syntax.specs.Shapes.{is_among}
use Rattle.kk_core.specs.Sizes.{most_parameters, most_variables}
use Rattle.kk_counted.specs.Arms.{HasArms}
use Rattle.kk_counted.specs.CountBounds.{EachHasAnArm}
use Rattle.kk_counted.specs.CountedCodes.{Counted, give, tail_call, case, compute, inside, read, open_cell, if_unique, dup, drop, CountedArms, no_arm, arm, CountedFunction}
use Rattle.kk_counted.specs.Marks.{CellMarks, IsMarked}
use Rattle.kk_counted.specs.Spending.{AreApart, numbers_from}

-- ---- variables

abbrev pub AreBelow : ℕ → List ℕ → Type 0
AreBelow base [] = Unit {0}
AreBelow base (x ∷ xs) = (x < base) × AreBelow base xs

-- a list of variables more, in their order
abbrev pub bound_list : List ℕ → List ℕ → List ℕ
bound_list [] bound = bound
bound_list (x ∷ xs) bound = bound_list xs (x ∷ bound)

-- ---- numbers

module _ (base : ℕ) where
  -- the variables that take the fields of a variable's cell
  abbrev pub AreFieldsNumbered : ℕ → List ℕ → Type 0
  AreFieldsNumbered x fields = AreBelow base fields × ((is_among fields x ≡ false) × AreApart fields)

  -- The variables that a code binds are below the temporaries, and those that take values of forms are above all that are bound
  -- there.
  abbrev mutual
    pub AreNumbered : List ℕ → Counted → Type 0
    AreNumbered bound (give x) = Unit {0}
    AreNumbered bound (tail_call f arguments) = Unit {0}
    AreNumbered bound (case x decisions arms) = AreArmsNumbered bound arms
    AreNumbered bound (compute x form arguments rest) = (x < base) × (AreBelow x bound × AreNumbered (x ∷ bound) rest)
    AreNumbered bound (inside x block rest) = (x < base) × (AreNumbered bound block × AreNumbered (x ∷ bound) rest)
    AreNumbered bound (read x c fields rest) = AreFieldsNumbered x fields × AreNumbered (fields ++ bound) rest
    AreNumbered bound (open_cell x c fields used rest) = AreFieldsNumbered x fields × AreNumbered (fields ++ bound) rest
    AreNumbered bound (if_unique x c fields used rest) = AreFieldsNumbered x fields × AreNumbered (fields ++ bound) rest
    AreNumbered bound (dup x rest) = AreNumbered bound rest
    AreNumbered bound (drop x rest) = AreNumbered bound rest

    pub AreArmsNumbered : List ℕ → CountedArms → Type 0
    AreArmsNumbered bound no_arm = Unit {0}
    AreArmsNumbered bound (arm body rest) = AreNumbered bound body × AreArmsNumbered bound rest

-- ---- blocks inside

-- the variable whose value a code gives first, on its first way that ends so
abbrev pub first_of : Option ℕ → Option ℕ → Option ℕ
first_of (Some x) other = Some x
first_of None other = other

abbrev mutual
  pub given_by : Counted → Option ℕ
  given_by (give x) = Some x
  given_by (tail_call f arguments) = None
  given_by (case x decisions arms) = given_by_arms arms
  given_by (compute x form arguments rest) = given_by rest
  given_by (inside x block rest) = given_by rest
  given_by (read x c fields rest) = given_by rest
  given_by (open_cell x c fields used rest) = given_by rest
  given_by (if_unique x c fields used rest) = given_by rest
  given_by (dup x rest) = given_by rest
  given_by (drop x rest) = given_by rest

  pub given_by_arms : CountedArms → Option ℕ
  given_by_arms no_arm = None
  given_by_arms (arm body rest) = first_of (given_by body) (given_by_arms rest)

-- each block inside of a code gives a value
abbrev mutual
  pub BlocksGive : Counted → Type 0
  BlocksGive (give x) = Unit {0}
  BlocksGive (tail_call f arguments) = Unit {0}
  BlocksGive (case x decisions arms) = BlocksOfArmsGive arms
  BlocksGive (compute x form arguments rest) = BlocksGive rest
  BlocksGive (inside x block rest) = (given : ℕ) × ((given_by block ≡ Some given) × (BlocksGive block × BlocksGive rest))
  BlocksGive (read x c fields rest) = BlocksGive rest
  BlocksGive (open_cell x c fields used rest) = BlocksGive rest
  BlocksGive (if_unique x c fields used rest) = BlocksGive rest
  BlocksGive (dup x rest) = BlocksGive rest
  BlocksGive (drop x rest) = BlocksGive rest

  pub BlocksOfArmsGive : CountedArms → Type 0
  BlocksOfArmsGive no_arm = Unit {0}
  BlocksOfArmsGive (arm body rest) = BlocksGive body × BlocksOfArmsGive rest

-- ---- arguments

-- how many arguments a form takes: an operator and a print as many as it has operands, and a call few
abbrev pub HasArity : Form → List ℕ → Type 0
HasArity (Unary operator) arguments = length arguments ≡ 1
HasArity (Binary operator) arguments = length arguments ≡ 2
HasArity (Print form) arguments = length arguments ≡ 1
HasArity (Call f) arguments = length arguments ≤ most_parameters
HasArity _ arguments = Unit {0}

-- each form and each call of a code has as many arguments as it takes
abbrev mutual
  pub HasArities : Counted → Type 0
  HasArities (give x) = Unit {0}
  HasArities (tail_call f arguments) = HasArity (Call f) arguments
  HasArities (case x decisions arms) = HaveArities arms
  HasArities (compute x form arguments rest) = HasArity form arguments × HasArities rest
  HasArities (inside x block rest) = HasArities block × HasArities rest
  HasArities (read x c fields rest) = HasArities rest
  HasArities (open_cell x c fields used rest) = HasArities rest
  HasArities (if_unique x c fields used rest) = HasArities rest
  HasArities (dup x rest) = HasArities rest
  HasArities (drop x rest) = HasArities rest

  pub HaveArities : CountedArms → Type 0
  HaveArities no_arm = Unit {0}
  HaveArities (arm body rest) = HasArities body × HaveArities rest

-- ---- openings

-- each opening of a code goes by the count of the cell
abbrev mutual
  pub OpensByCount : Counted → Type 0
  OpensByCount (give x) = Unit {0}
  OpensByCount (tail_call f arguments) = Unit {0}
  OpensByCount (case x decisions arms) = OpenByCount arms
  OpensByCount (compute x form arguments rest) = OpensByCount rest
  OpensByCount (inside x block rest) = OpensByCount block × OpensByCount rest
  OpensByCount (read x c fields rest) = OpensByCount rest
  OpensByCount (open_cell x c fields used rest) = ⊥
  OpensByCount (if_unique x c fields used rest) = OpensByCount rest
  OpensByCount (dup x rest) = OpensByCount rest
  OpensByCount (drop x rest) = OpensByCount rest

  pub OpenByCount : CountedArms → Type 0
  OpenByCount no_arm = Unit {0}
  OpenByCount (arm body rest) = OpensByCount body × OpenByCount rest

-- ---- functions

-- A function by its number can be lowered: some variables of it are marked as types tell, its variables are few and numbered in
-- order, each case has an arm for each row and one at least, each block inside gives a value, and forms have as many arguments as
-- they take.
pub record IsLowerable (table : CellMarks) (f : ℕ) (function : CountedFunction) : Type 0 where
  pub holds : ℕ → Bool
  pub base : ℕ
  pub few : base ≤ most_variables
  pub few_parameters : function.parameters ≤ most_parameters
  pub marked : IsMarked table holds f function
  pub numbered : AreNumbered base (numbers_from 0 function.parameters) function.body
  pub parameters_below : function.parameters ≤ base
  pub arms : HasArms function.body
  pub some_arm : EachHasAnArm function.body
  pub gives : BlocksGive function.body
  pub arities : HasArities function.body

abbrev pub AreLowerable : CellMarks → List CountedFunction → Type 0
AreLowerable table functions = (f : ℕ) (function : CountedFunction) → slice_get functions f ≡ Some function
    → IsLowerable table f function

abbrev pub AllOpenByCount : List CountedFunction → Type 0
AllOpenByCount functions =
    (f : ℕ) (function : CountedFunction) → slice_get functions f ≡ Some function → OpensByCount function.body
