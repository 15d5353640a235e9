-- Of which kind values are where code runs as its types tell: operators and prints take numbers, `!` takes a truth,
-- and a test finds an answer of the type of its edges.
use Rattle.std.specs.Prelude.{◌≡◌, ℕ, zero, suc, ℤ, Bool, true, false, List, [], ◌∷◌, map, length, Option, Some, None, nat_eq, slice_get, slice_index_or}
use Rattle.kk_base.specs.Machines.{state}
use Rattle.kk_syntax.specs.declared.program.Form.{Form}
use Rattle.kk_syntax.specs.declared.program.Form.TheVariants.{Unary, Binary, Print}
use Rattle.kk_syntax.specs.declared.operator.UnaryOperator.TheVariants.{Negate, Not}
use Rattle.kk_syntax.specs.Covered.{Each}
use Rattle.kk_syntax.specs.OfType.{IsPatternOf, values_of, field_types}
use Rattle.kk_syntax.specs.Outlines.{outline_of}
use Rattle.kk_syntax.specs.Patterns.{Pattern}
use Rattle.kk_syntax.specs.Programs.{ConstructorTree}
use Rattle.kk_syntax.specs.Types.{TypeTree}
use Rattle.kk_source.specs.FormEffects.{truth}
use Rattle.kk_source.specs.Live.{value_of}
use Rattle.kk_source.specs.State.{Value, integer, place, Cell, Store}
use Rattle.kk_source.specs.ValueTypes.{IsOf}
use Rattle.kk_core.specs.Cases.{EachCase, EachCaseOfArms, EachCaseOfAll}
use Rattle.kk_core.specs.Codes.{Code, case, compute, Arms, ProgramCode}
use Rattle.kk_core.specs.CoreMachine.{core_machine}
use Rattle.kk_core.specs.CoreStates.{CoreSetting, CoreControl, running, CoreConfiguration, CoreState, core_first_state}
use Rattle.kk_core.specs.Decisions.{NodeTree, chooses, tests, value_at, answer_of, next_by}
use Rattle.kk_core.specs.declared.decisions.Answer.{Answer}
use Rattle.kk_core.specs.declared.decisions.Answer.TheVariants.{Number, Constructor}
use Rattle.kk_core.specs.declared.decisions.Edge.{Edge}

-- ---- values

abbrev pub IsNumber : Value → Type 0
IsNumber v = (n : ℤ) × (v ≡ integer n)

abbrev pub IsTruth : Value → Type 0
IsTruth v = (b : Bool) × (v ≡ truth b)

-- operators and prints take numbers and truths
abbrev pub TakesKinds : Form → List Value → Type 0
TakesKinds (Unary Negate) (v ∷ []) = IsNumber v
TakesKinds (Unary Not) (v ∷ []) = IsTruth v
TakesKinds (Unary operator) values = ⊥
TakesKinds (Binary operator) (v ∷ w ∷ []) = IsNumber v × IsNumber w
TakesKinds (Binary operator) values = ⊥
TakesKinds (Print form) (v ∷ []) = IsNumber v
TakesKinds (Print form) values = ⊥
TakesKinds form values = Unit {0}

-- ---- tests, by which constructors are alike, and by how many fields each has

-- whether the value itself shows the answer: a number, or a constructor without fields; else its cell does
abbrev pub is_plain : (ℕ → ℕ) → Answer → Bool
is_plain fields (Number n) = true
is_plain fields (Constructor c) = nat_eq (fields c) 0

module _ (alike : ℕ → ℕ → Type 0) (fields : ℕ → ℕ) where
  abbrev pub AreAlike : Answer → Answer → Type 0
  AreAlike (Number n) (Number m) = Unit {0}
  AreAlike (Constructor c) (Constructor d) = alike c d
  AreAlike _ _ = ⊥

  -- the answers of the edges of a test are alike with what is found
  abbrev pub AllAlike : Answer → List Edge → Type 0
  AllAlike found [] = Unit {0}
  AllAlike found (edge ∷ edges) = AreAlike edge.found found × AllAlike found edges

  -- a value is a cell's exactly where its constructor has fields
  abbrev pub ShowsIts : Value → Answer → Type 0
  ShowsIts (place at) found = is_plain fields found ≡ false
  ShowsIts _ found = is_plain fields found ≡ true

  module _ (cells : ℕ → Option Cell) (v : Value) where
    -- what a node tests is alike with its edges, and so are the tests behind it
    abbrev pub TestsNode : (ℕ → Type 0) → Option NodeTree → Type 0
    TestsNode behind None = Unit {0}
    TestsNode behind (Some (chooses row)) = Unit {0}
    TestsNode behind (Some (tests at edges otherwise)) =
        (w : Value) → value_at cells at v ≡ Some w → (found : Answer) → answer_of cells w ≡ Some found
        → ShowsIts w found × (AllAlike found edges × ((k : ℕ) → next_by edges otherwise found ≡ Some k → behind k))

    -- so within so many steps from a node on
    abbrev pub TestsFrom : List NodeTree → ℕ → ℕ → Type 0
    TestsFrom nodes zero k = Unit {0}
    TestsFrom nodes (suc steps) k = TestsNode (TestsFrom nodes steps) (slice_get nodes k)

    abbrev pub TestsAlike : List NodeTree → Type 0
    TestsAlike nodes = TestsFrom nodes (length nodes) 0

-- ---- constructors of a program

-- two constructors make values of one type
abbrev pub MakeOneType : List ConstructorTree → ℕ → ℕ → Type 0
MakeOneType constructors c d =
    (t : TypeTree) × (us : List TypeTree) × (vs : List TypeTree) × (field_types constructors t c ≡ Some us)
    × (field_types constructors t d ≡ Some vs)

abbrev pub field_count : List ConstructorTree → ℕ → ℕ
field_count constructors c = slice_index_or (map (λ (one : ConstructorTree). length one.fields) constructors) c 0

-- Decisions ask what types tell: for each value of a type that all the patterns of a match are of, each answer that a test finds is
-- of the type of its edges.
abbrev pub AsksTyped : List ConstructorTree → List Pattern → List NodeTree → Type 0
AsksTyped constructors patterns decisions =
    (t : TypeTree) (store : Store) (v : Value) → Each (IsPatternOf (values_of constructors) t) (map outline_of patterns)
    → IsOf constructors store t v
    → TestsAlike (MakeOneType constructors) (field_count constructors) (slice_get store) v decisions

-- each case of a code asks what types tell, and so in each function of a program
abbrev pub AskTyped : List ConstructorTree → Code → Type 0
AskTyped constructors = EachCase (λ decisions patterns. AsksTyped constructors patterns decisions)

abbrev pub ArmsAskTyped : List ConstructorTree → Arms → Type 0
ArmsAskTyped constructors = EachCaseOfArms (λ decisions patterns. AsksTyped constructors patterns decisions)

abbrev pub AllAskTyped : List ConstructorTree → ProgramCode → Type 0
AllAskTyped constructors = EachCaseOfAll (λ decisions patterns. AsksTyped constructors patterns decisions)

-- ---- states

-- what the code of a state takes is of the kinds that it asks for
abbrev pub HasKinds : (ℕ → ℕ → Type 0) → (ℕ → ℕ) → CoreControl → CoreConfiguration → Type 0
HasKinds alike fields (running (case x decisions arms) environment joins) c =
    TestsAlike alike fields (slice_get c.store) (value_of environment x) decisions
HasKinds alike fields (running (compute x form arguments rest) environment joins) c =
    TakesKinds form (map (value_of environment) arguments)
HasKinds alike fields _ c = Unit {0}

-- so in each state of a run
abbrev pub HasKindsAlways : (ℕ → ℕ → Type 0) → (ℕ → ℕ) → (CoreState → ℕ) → CoreSetting → List ℕ → Type 0
HasKindsAlways alike fields weight setting input =
    (n : ℕ) → HasKinds alike fields (state (core_machine weight setting) n (core_first_state setting input)).machine.control
    (state (core_machine weight setting) n (core_first_state setting input)).machine
