-- A graph while it is built: each node stands behind those that it names.
use Rattle.std.specs.Prelude.{◌≡◌, ◌≤◌, ℕ, true, List, [], ◌∷◌, ◌++◌, length, Option, None, Some, slice_get}
use Rattle.kk_syntax.specs.Shapes.{is_among}
use Rattle.kk_core.specs.declared.decisions.Answer.{Answer}
use Rattle.kk_core.specs.declared.decisions.Edge.{Edge}
use Rattle.kk_core.specs.Decisions.{NodeTree, chooses, tests, targets, next_by}
use Rattle.kk_match.specs.Parts.{IsKind}
use Rattle.kk_match.specs.Graphs.{StateTree, after, test_of, row_of, weight_at}
use Rattle.kk_match.specs.Outcomes.{IsOutcome}

-- the node of a state has a number
abbrev pub Names : List StateTree → ℕ → StateTree → Type 0
Names states j state = slice_get states j ≡ Some state

-- the answers of edges may stand where one does
abbrev pub AreOfKind : List ℕ → Answer → List Edge → Type 0
AreOfKind types asked [] = Unit {0}
AreOfKind types asked (edge ∷ edges) = IsKind types asked edge.found × AreOfKind types asked edges

-- A test leads from a state to those that are left: by each edge to one that an outcome leaves, and by each outcome to the one
-- that this outcome leaves. Its edges have answers of its kind alone, and are no more than the parts left at its position.
pub record Branches (types : List ℕ) (states : List StateTree) (state : StateTree) (at : List ℕ) (edges : List Edge) (otherwise : Option ℕ) : Type 0 where
  pub asked : Answer
  pub is_test : test_of state ≡ Some (record { at = at; asked = asked })
  pub of_kind : AreOfKind types asked edges
  pub leads : (j : ℕ) → is_among (targets (tests at edges otherwise)) j ≡ true
      → (outcome : Option Answer) × IsOutcome types asked outcome × Names states j (after at outcome state)
  pub whole : (found : Answer) → IsKind types asked found
      → (j : ℕ) × (next_by edges otherwise found ≡ Some j) × Names states j (after at (Some found) state)
  pub another : IsOutcome types asked None → (j : ℕ) × (otherwise ≡ Some j) × Names states j (after at None state)
  pub few : length edges ≤ weight_at at state

-- the node of a state: it chooses the first row, or tests
abbrev pub IsRight : List ℕ → List StateTree → StateTree → NodeTree → Type 0
IsRight types states state (chooses row) = (test_of state ≡ None) × (row ≡ row_of state)
IsRight types states state (tests at edges otherwise) = Branches types states state at edges otherwise

-- States and their nodes in a row: each state and its node stand in a relation to the states before it.
pub data InRow (R : List StateTree → StateTree → NodeTree → Type 0) : List StateTree → List NodeTree → Type 0 where
  no_state : InRow R [] []
  one_more : {states : List StateTree} → {nodes : List NodeTree} → (state : StateTree) → (node : NodeTree) → InRow R states nodes → R states state node
      → InRow R (states ++ state ∷ []) (nodes ++ node ∷ [])

-- each node is right by states before it
abbrev pub AreRight : List ℕ → List StateTree → List NodeTree → Type 0
AreRight types = InRow (IsRight types)
