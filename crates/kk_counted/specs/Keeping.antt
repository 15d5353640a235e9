-- What is true of each state of a run of code that spends what it owns: its heap is sound.
use Rattle.std.specs.Prelude.{◌≡◌, ℕ, true, false, List, [], ◌∷◌, ◌++◌, map, length, Option, Some, None, slice_get}
use Rattle.kk_base.specs.Machines.{state}
use Rattle.kk_syntax.specs.declared.program.Form.{Form}
use Rattle.kk_syntax.specs.declared.program.Form.TheVariants.{Construct, Call}
use Rattle.kk_syntax.specs.Shapes.{is_among}
use Rattle.kk_syntax.specs.PositionsOf.{PositionTable}
use Rattle.kk_source.specs.State.{Value, place, Cell, Store, Environment}
use Rattle.kk_source.specs.Live.{value_of, Reached}
use Rattle.kk_core.specs.Decisions.{chosen}
use Rattle.kk_counted.specs.CountedCodes.{Counted, tail_call, case, compute, read, open_cell, if_unique, dup, drop, CountedFunction}
use Rattle.kk_counted.specs.Heaps.{Heap, forwards}
use Rattle.kk_counted.specs.CountedStates.{CountedSetting, CountedJoin, CountedFrame, CountedControl, running, stopped, stuck, CountedConfiguration, CountedState, counted_first_state}
use Rattle.kk_counted.specs.CountedMachine.{arm_at, counted_machine}
use Rattle.kk_counted.specs.References.{IsSound, IsCounted}
use Rattle.kk_counted.specs.Spending.{Spends}

-- the values of variables
abbrev pub values_of : Environment → List ℕ → List Value
values_of environment xs = map (value_of environment) xs

-- a value that names no cell
abbrev pub HasNoCell : Value → Type 0
HasNoCell (place at) = ⊥
HasNoCell _ = Unit {0}

abbrev pub HaveNoCells : List Value → Type 0
HaveNoCells [] = Unit {0}
HaveNoCells (v ∷ vs) = HasNoCell v × HaveNoCells vs

-- operators and prints take values without cells, as those of a typed program do
abbrev pub TakesNoCells : Form → List Value → Type 0
TakesNoCells (Construct c) values = Unit {0}
TakesNoCells (Call f) values = Unit {0}
TakesNoCells _ values = HaveNoCells values

abbrev pub FitsAt : CountedControl → Type 0
FitsAt (running (compute x form arguments rest) environment joins) = TakesNoCells form (values_of environment arguments)
FitsAt _ = Unit {0}

-- the variable whose cell a code is about to test, to read, to open, to duplicate or to drop
abbrev pub uses : Counted → List ℕ
uses (case x decisions arms) = x ∷ []
uses (read x c fields rest) = x ∷ []
uses (open_cell x c fields used rest) = x ∷ []
uses (if_unique x c fields used rest) = x ∷ []
uses (dup x rest) = x ∷ []
uses (drop x rest) = x ∷ []
uses _ = []

-- the cell that a lent variable names can be reached from values, which functions that wait own
abbrev pub AreReached : Store → List Value → Environment → List ℕ → Type 0
AreReached store below environment lent =
    (y at : ℕ) → is_among lent y ≡ true → value_of environment y ≡ place at → Reached store below at

module _ (positions : PositionTable) (functions : List CountedFunction) where
  -- the code behind the innermost block spends what that block leaves, and so on
  abbrev pub Waits : List ℕ → Option (List ℕ) → List CountedJoin → Type 0
  Waits lent None [] = Unit {0}
  Waits lent None (join ∷ joins) = ⊥
  Waits lent (Some kept) [] = ⊥
  Waits lent (Some kept) (join ∷ joins) =
      (left : Option (List ℕ)) × ((is_among kept join.variable ≡ false) × ((is_among lent join.variable ≡ false)
      × (Spends positions functions lent [] left (join.variable ∷ kept) join.rest × Waits lent left joins)))

  -- a function that waits: it owns some variables, and its lent ones are reached from what older ones own
  pub record IsWaiting (store : Store) (below : List Value) (frame : CountedFrame) : Type 0 where
    pub lent : List ℕ
    pub owned : List ℕ
    pub left : Option (List ℕ)
    pub fresh : is_among owned frame.variable ≡ false
    pub unlent : is_among lent frame.variable ≡ false
    pub spends : Spends positions functions lent [] left (frame.variable ∷ owned) frame.rest
    pub waits : Waits lent left frame.joins
    pub reached : AreReached store below frame.environment lent

  -- the values that the functions that wait own
  abbrev pub Own : Store → List CountedFrame → List Value → Type 0
  Own store [] owned = owned ≡ []
  Own store (frame ∷ older) owned =
      (below : List Value) × ((waiting : IsWaiting store below frame)
      × ((owned ≡ values_of frame.environment waiting.owned ++ below) × Own store older below))

  -- the function that runs, where those that wait own some values
  pub record IsRunning (heap : Heap) (below : List Value) (code : Counted) (environment : Environment)
      (joins : List CountedJoin) : Type 0 where
    pub lent : List ℕ
    pub readable : List ℕ
    pub owned : List ℕ
    pub left : Option (List ℕ)
    pub spends : Spends positions functions lent readable left owned code
    pub waits : Waits lent left joins
    pub reached : AreReached (forwards heap) below environment lent
    pub counted : (y : ℕ) → is_among readable y ≡ true → IsCounted heap (value_of environment y)
    pub sound : IsSound (values_of environment owned ++ below) heap

  abbrev pub IsKeptAt : Heap → List Value → CountedControl → Type 0
  IsKeptAt heap below (running code environment joins) = IsRunning heap below code environment joins
  IsKeptAt heap below (stopped by) = (owned : List Value) × IsSound owned heap
  IsKeptAt heap below stuck = (owned : List Value) × IsSound owned heap

  -- the heap is sound over what the function that runs and those that wait own
  abbrev pub IsKept : CountedConfiguration → Type 0
  IsKept c = (below : List Value) × (Own (forwards c.heap) c.frames below × IsKeptAt c.heap below c.control)

-- ---- the shape that a typed program has

-- a function is there
abbrev pub IsThere : List CountedFunction → ℕ → Type 0
IsThere functions f = (function : CountedFunction) × (slice_get functions f ≡ Some function)

abbrev pub CallsOne : List CountedFunction → Form → Type 0
CallsOne functions (Call f) = IsThere functions f
CallsOne functions _ = Unit {0}

-- a value names a cell of a constructor with so many fields, counted or not
abbrev pub IsCell : Store → ℕ → ℕ → Value → Type 0
IsCell store c count v =
    (at : ℕ) × ((cell : Cell) × ((v ≡ place at) × ((slice_get store at ≡ Some cell)
    × ((cell.made_by ≡ c) × (length cell.fields ≡ count)))))

-- calls are of functions that are there; a case has an arm for its value, as the store of all cells shows it; readings and
-- openings are of cells of their constructor
abbrev pub HasShape : List CountedFunction → Store → CountedControl → Type 0
HasShape functions store (running (tail_call f arguments) environment joins) = IsThere functions f
HasShape functions store (running (compute x form arguments rest) environment joins) = CallsOne functions form
HasShape functions store (running (case x decisions arms) environment joins) =
    (row : ℕ) × ((body : Counted) × ((chosen (slice_get store) (value_of environment x) decisions ≡ Some row)
    × (arm_at arms row ≡ Some body)))
HasShape functions store (running (read x c fields rest) environment joins) =
    IsCell store c (length fields) (value_of environment x)
HasShape functions store (running (open_cell x c fields used rest) environment joins) =
    IsCell store c (length fields) (value_of environment x)
HasShape functions store (running (if_unique x c fields used rest) environment joins) =
    IsCell store c (length fields) (value_of environment x)
HasShape functions store _ = Unit {0}

-- ---- runs

-- the machine after so many steps of a run
abbrev pub counted_after : (CountedState → ℕ) → CountedSetting → List ℕ → ℕ → CountedConfiguration
counted_after weight setting input n = (state (counted_machine weight setting) n (counted_first_state setting input)).machine

-- in each state of a run operators and prints take values without cells
abbrev pub FitsAlways : (CountedState → ℕ) → CountedSetting → List ℕ → Type 0
FitsAlways weight setting input = (n : ℕ) → FitsAt (counted_after weight setting input n).control

abbrev pub HasShapeAlways : (CountedState → ℕ) → CountedSetting → List ℕ → Type 0
HasShapeAlways weight setting input =
    (n : ℕ) → HasShape setting.program.functions (forwards (counted_after weight setting input n).heap)
    (counted_after weight setting input n).control
