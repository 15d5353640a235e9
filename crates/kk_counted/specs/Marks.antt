-- Which variables of counted code can name cells, by the types of the program. A place cannot be told from a number when a program
-- runs. So each variable has a mark, and the mark is exact: a variable that is marked holds no number and no `()`, and one that is
-- not marked holds no place.
use Rattle.std.specs.Prelude.{◌≡◌, ℕ, Bool, true, false, List, [], ◌∷◌, ◌++◌, map, Some, slice_get, slice_index_or}
use Rattle.kk_syntax.specs.declared.program.Form.{Form}
use Rattle.kk_syntax.specs.declared.program.Form.TheVariants.{Construct, Call}
use Rattle.kk_syntax.specs.Shapes.{is_among}
use Rattle.kk_core.specs.declared.shape.ConstructorShape.{ConstructorShape}
use Rattle.kk_core.specs.Sizes.{AreBound}
use Rattle.kk_counted.specs.declared.shape.InstanceShape.{InstanceShape}
use Rattle.kk_counted.specs.CountedCodes.{Counted, give, tail_call, case, compute, inside, read, open_cell, if_unique, dup, drop, CountedArms, no_arm, arm, CountedFunction, CountedProgram}
use Rattle.kk_counted.specs.Spending.{numbers_from}

-- ---- what the types tell

-- By the number of an instance: which of its parameters have a type with cells, and whether its result has. By the number of a
-- constructor: whether its type has cells, and which of its fields have a type with cells.
pub record CellMarks : Type 0 where
  pub parameters : List (List Bool)
  pub results : List Bool
  pub types : List Bool
  pub fields : List (List Bool)

abbrev pub parameter_marks : CellMarks → ℕ → List Bool
parameter_marks marks f = slice_index_or marks.parameters f []

abbrev pub result_mark : CellMarks → ℕ → Bool
result_mark marks f = slice_index_or marks.results f false

abbrev pub field_marks : CellMarks → ℕ → List Bool
field_marks marks c = slice_index_or marks.fields c []

-- the mark of what a constructor makes: with fields a cell, and without fields a value of the constructor's type
abbrev pub made_mark : CellMarks → ℕ → List ℕ → Bool
made_mark marks c [] = slice_index_or marks.types c false
made_mark marks c (argument ∷ more) = true

-- the marks that the shapes of instances and constructors tell
abbrev pub marks_of : List InstanceShape → List ConstructorShape → CellMarks
marks_of instances constructors =
    record {
      parameters = map (λ (instance : InstanceShape). map (λ parameter. parameter.has_cells) instance.parameters.items) instances;
      results = map (λ (instance : InstanceShape). instance.result_has_cells) instances;
      types = map (λ (constructor : ConstructorShape). constructor.has_cells) constructors;
      fields = map (λ (constructor : ConstructorShape). constructor.fields.items) constructors;
    }

-- ---- code, by the variables of its function that are marked

module _ (holds : ℕ → Bool) where
  -- variables have these marks, one after the other
  abbrev pub HaveMarks : List ℕ → List Bool → Type 0
  HaveMarks [] [] = Unit {0}
  HaveMarks [] (mark ∷ more) = ⊥
  HaveMarks (x ∷ xs) [] = ⊥
  HaveMarks (x ∷ xs) (mark ∷ more) = (holds x ≡ mark) × HaveMarks xs more

  abbrev pub AreUnmarked : List ℕ → Type 0
  AreUnmarked [] = Unit {0}
  AreUnmarked (x ∷ xs) = (holds x ≡ false) × AreUnmarked xs

module _ (marks : CellMarks) (holds : ℕ → Bool) where
  -- A form on variables gives a value of this mark. Operators and prints take and give no cells.
  abbrev pub IsFormMarked : Form → List ℕ → Bool → Type 0
  IsFormMarked (Construct c) arguments mark = HaveMarks holds arguments (field_marks marks c) × (mark ≡ made_mark marks c arguments)
  IsFormMarked (Call f) arguments mark = HaveMarks holds arguments (parameter_marks marks f) × (mark ≡ result_mark marks f)
  IsFormMarked _ arguments mark = AreUnmarked holds arguments × (mark ≡ false)

  -- variables take the fields of the cell of a variable, which is bound and marked
  abbrev pub Opens : List ℕ → ℕ → ℕ → List ℕ → Type 0
  Opens bound x c fields = (is_among bound x ≡ true) × ((holds x ≡ true) × HaveMarks holds fields (field_marks marks c))

  -- A code of a function whose result has the mark `result`, with these variables bound, gives a value of the mark `given`, which
  -- is the same where no block is around the code. Each variable that is used is bound, each one that takes a value has the mark
  -- of that value, and what is opened is marked.
  module _ (result : Bool) where
    abbrev mutual
      pub HasMark : List ℕ → Bool → Counted → Type 0
      HasMark bound given (give x) = (is_among bound x ≡ true) × (holds x ≡ given)
      HasMark bound given (tail_call f arguments) =
          AreBound bound arguments × (HaveMarks holds arguments (parameter_marks marks f) × (result_mark marks f ≡ result))
      HasMark bound given (case x decisions arms) = (is_among bound x ≡ true) × HaveMark bound given arms
      HasMark bound given (compute x form arguments rest) =
          AreBound bound arguments × (IsFormMarked form arguments (holds x) × HasMark (x ∷ bound) given rest)
      HasMark bound given (inside x block rest) = HasMark bound (holds x) block × HasMark (x ∷ bound) given rest
      HasMark bound given (read x c fields rest) = Opens bound x c fields × HasMark (fields ++ bound) given rest
      HasMark bound given (open_cell x c fields used rest) = Opens bound x c fields × HasMark (fields ++ bound) given rest
      HasMark bound given (if_unique x c fields used rest) = Opens bound x c fields × HasMark (fields ++ bound) given rest
      HasMark bound given (dup x rest) = (is_among bound x ≡ true) × HasMark bound given rest
      HasMark bound given (drop x rest) = (is_among bound x ≡ true) × HasMark bound given rest

      pub HaveMark : List ℕ → Bool → CountedArms → Type 0
      HaveMark bound given no_arm = Unit {0}
      HaveMark bound given (arm body rest) = HasMark bound given body × HaveMark bound given rest

-- ---- functions and programs

-- A function by its number: its parameters are marked as the table tells, and its body gives a value of the mark of its result.
pub record IsMarked (marks : CellMarks) (holds : ℕ → Bool) (f : ℕ) (function : CountedFunction) : Type 0 where
  pub parameters_marked : HaveMarks holds (numbers_from 0 function.parameters) (parameter_marks marks f)
  pub body_marked : HasMark marks holds (result_mark marks f) (numbers_from 0 function.parameters) (result_mark marks f)
      function.body

-- A function whose variables can be marked so. For those that it binds there is no other way: each gets its mark from what it takes
-- its value from.
abbrev pub CanBeMarked : CellMarks → ℕ → CountedFunction → Type 0
CanBeMarked marks f function = (holds : ℕ → Bool) × IsMarked marks holds f function

-- A program, by the variables of each function that are marked: each function is so, and `main`, which has no parameters, is there.
pub record AreMarked (marks : CellMarks) (holds : ℕ → ℕ → Bool) (program : CountedProgram) : Type 0 where
  pub each : (f : ℕ) (function : CountedFunction) → slice_get program.functions f ≡ Some function
      → IsMarked marks (holds f) f function
  pub main_there : (function : CountedFunction) × ((slice_get program.functions program.main ≡ Some function)
      × (function.parameters ≡ 0))
