-- What is asked of a state of the counted machine: that it is not stuck, that its heap is sound with counts that are words, and
-- that values are of the types that the code takes.
use Rattle.std.specs.Prelude.{◌≡◌, ℕ, zero, suc, ◌+◌, ◌^◌, ◌<◌, true, false, List, [], ◌∷◌, map, length, Option, Some, None, slice_get}
use Rattle.kk_syntax.specs.declared.program.Form.{Form}
use Rattle.kk_syntax.specs.declared.program.Form.TheVariants.{Unary, Binary, Print}
use Rattle.kk_syntax.specs.declared.operator.UnaryOperator.TheVariants.{Negate, Not}
use Rattle.kk_source.specs.State.{Value, integer, place, Cell, Environment}
use Rattle.kk_source.specs.Live.{value_of}
use Rattle.kk_core.specs.Decisions.{NodeTree, chooses, tests, value_at, answer_of, next_by}
use Rattle.kk_core.specs.declared.decisions.Answer.{Answer}
use Rattle.kk_core.specs.declared.decisions.Answer.TheVariants.{Number as OfNumber, Constructor}
use Rattle.kk_core.specs.declared.decisions.Edge.{Edge}
use Rattle.kk_core.specs.Kinds.{IsTruth}
use Rattle.kk_core.specs.Sizes.{most_parameters}
use Rattle.kk_counted.specs.CountedCodes.{Counted, case, compute}
use Rattle.kk_counted.specs.CountedStates.{CountedJoin, CountedControl, running, CountedConfiguration}
use Rattle.kk_counted.specs.CountedMachine.{NotStuck}
use Rattle.kk_counted.specs.Heaps.{Heap, count_at, cell_at}
use Rattle.kk_counted.specs.References.{IsSound}
use Rattle.rv_isa.specs.Arithmetic.{signed}
use Rattle.rv_cells.specs.Layout.{Layout}
use Rattle.rv_cells.specs.CountedLines.{is_plain}

-- ---- numbers

abbrev pub IsInt32 : Value → Type 0
IsInt32 v = (word : ℕ) × (v ≡ integer (signed word)) × (word < 2 ^ 32)

-- operators and prints take numbers and truths
abbrev pub FitsForm : Form → List Value → Type 0
FitsForm (Unary Negate) (v ∷ []) = IsInt32 v
FitsForm (Unary Not) (v ∷ []) = IsTruth v
FitsForm (Unary operator) values = ⊥
FitsForm (Binary operator) (v ∷ w ∷ []) = IsInt32 v × IsInt32 w
FitsForm (Binary operator) values = ⊥
FitsForm (Print form) (v ∷ []) = IsInt32 v
FitsForm (Print form) values = ⊥
FitsForm form values = Unit {0}

-- ---- tests

-- the tag tells these constructors apart, as it does those of a type
abbrev pub AreTagged : Layout → ℕ → ℕ → Type 0
AreTagged layout c d = layout.tag c ≡ layout.tag d → c ≡ d

abbrev pub count_of_fields : Layout → ℕ → ℕ
count_of_fields layout c = length (layout.fields c)

-- answers of one type
abbrev pub AreAlike : Layout → Answer → Answer → Type 0
AreAlike layout (OfNumber n) (OfNumber m) = IsInt32 (integer n) × IsInt32 (integer m)
AreAlike layout (Constructor c) (Constructor d) = AreTagged layout c d
AreAlike layout _ _ = ⊥

abbrev pub AllAlike : Layout → Answer → List Edge → Type 0
AllAlike layout found [] = Unit {0}
AllAlike layout found (edge ∷ edges) = AreAlike layout edge.found found × AllAlike layout found edges

-- a value is a cell's exactly where its constructor has fields
abbrev pub ShowsIts : Layout → Value → Answer → Type 0
ShowsIts layout (place at) found = is_plain layout found ≡ false
ShowsIts layout _ found = is_plain layout found ≡ true

module _ (layout : Layout) (cells : ℕ → Option Cell) (v : Value) where
  -- what a node tests is of the type of its edges, and so are the tests behind it
  abbrev pub FitsNode : (ℕ → Type 0) → Option NodeTree → Type 0
  FitsNode behind None = Unit {0}
  FitsNode behind (Some (chooses row)) = Unit {0}
  FitsNode behind (Some (tests at edges otherwise)) =
      (w : Value) → value_at cells at v ≡ Some w → (found : Answer) → answer_of cells w ≡ Some found
      → ShowsIts layout w found × (AllAlike layout found edges × ((k : ℕ) → next_by edges otherwise found ≡ Some k → behind k))

  abbrev pub FitsFrom : List NodeTree → ℕ → ℕ → Type 0
  FitsFrom nodes zero k = Unit {0}
  FitsFrom nodes (suc steps) k = FitsNode (FitsFrom nodes steps) (slice_get nodes k)

-- ---- states

abbrev pub FitsControl : Layout → Heap → CountedControl → Type 0
FitsControl layout heap (running (case x decisions arms) environment joins) =
    FitsFrom layout (cell_at heap) (value_of environment x) decisions (length decisions) 0
FitsControl layout heap (running (compute x form arguments rest) environment joins) =
    FitsForm form (map (value_of environment) arguments)
FitsControl layout heap _ = Unit {0}

-- one step makes no more references of a cell: a form takes no more values
abbrev pub step_references : ℕ
step_references = most_parameters

-- Where it goes on, a count and the references that one step makes are less than 2^32.
pub record IsFit (layout : Layout) (c : CountedConfiguration) : Type 0 where
  pub going : NotStuck c.control
  pub owned : List Value
  pub sound : IsSound owned c.heap
  pub counts : (code : Counted) (environment : Environment) (joins : List CountedJoin)
      → c.control ≡ running code environment joins → (name : ℕ) → step_references + count_at c.heap name < 2 ^ 32
  pub fits : FitsControl layout c.heap c.control
