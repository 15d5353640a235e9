-- Decisions as mathematics, and which row they choose.
use Rattle.std.specs.Prelude.{◌≡◌, ℕ, zero, suc, ◌<◌, ◌==◌, Bool, false, true, List, [], ◌∷◌, map, length, Option, Some, None, option_map, if◌then◌else◌, slice_get}
use Rattle.std.specs.Ordering.{int_eq}
use Rattle.kk_syntax.specs.Shapes.{is_among}
use Rattle.kk_source.specs.State.{Value, integer, unit, constant, place, Cell}
use Rattle.kk_source.specs.Matching.{and_then}
use Rattle.kk_core.specs.declared.decisions.Answer.{Answer}
use Rattle.kk_core.specs.declared.decisions.Answer.TheVariants.{Number, Constructor}
use Rattle.kk_core.specs.declared.decisions.Edge.{Edge}
use Rattle.kk_core.specs.declared.decisions.Node.{Node}
use Rattle.kk_core.specs.declared.decisions.Node.TheVariants.{Choose, Test}

-- a node: it chooses a row; or it tests a position, and leads on by the edge of what it finds, or else by `otherwise`
pub data NodeTree : Type 0 where
  chooses : (row : ℕ) → NodeTree
  tests : (at : List ℕ) → (edges : List Edge) → (otherwise : Option ℕ) → NodeTree

abbrev pub node_tree : Node → NodeTree
node_tree (Choose row) = chooses row
node_tree (Test at edges otherwise) = tests at.items edges.items otherwise

-- ---- what a value shows, where a cell can be read: none where it is not there, or may not be read

module _ (cells : ℕ → Option Cell) where
  -- the fields of a value
  abbrev pub fields_shown : Value → Option (List Value)
  fields_shown (integer n) = Some []
  fields_shown unit = Some []
  fields_shown (constant c) = Some []
  fields_shown (place at) = option_map (λ cell. cell.fields) (cells at)

  -- the value at a position
  abbrev pub value_at : List ℕ → Value → Option Value
  value_at [] v = Some v
  value_at (field ∷ way) v = and_then (and_then (fields_shown v) (λ fields. slice_get fields field)) (value_at way)

  -- what a test finds at a value: its number, or its constructor
  abbrev pub answer_of : Value → Option Answer
  answer_of (integer n) = Some (Number n)
  answer_of unit = None
  answer_of (constant c) = Some (Constructor c)
  answer_of (place at) = option_map (λ cell. Constructor cell.made_by) (cells at)

  abbrev pub found_at : List ℕ → Value → Option Answer
  found_at at v = and_then (value_at at v) answer_of

-- ---- which row is chosen

abbrev pub is_answer : Answer → Answer → Bool
is_answer (Number n) (Number m) = int_eq n m
is_answer (Constructor c) (Constructor d) = c == d
is_answer _ _ = false

-- the node of the first edge with an answer, or else `otherwise`
abbrev pub next_by : List Edge → Option ℕ → Answer → Option ℕ
next_by [] otherwise found = otherwise
next_by (edge ∷ edges) otherwise found = if is_answer edge.found found then Some edge.next else next_by edges otherwise found

module _ (cells : ℕ → Option Cell) (v : Value) where
  -- the row that a node chooses, by what those behind it choose
  abbrev pub row_at : (ℕ → Option ℕ) → Option NodeTree → Option ℕ
  row_at behind None = None
  row_at behind (Some (chooses row)) = Some row
  row_at behind (Some (tests at edges otherwise)) =
      and_then (found_at cells at v) (λ found. and_then (next_by edges otherwise found) behind)

  -- The row that nodes choose from the one of a number on, within so many steps. Each node names later ones, so there are
  -- no more steps than nodes.
  abbrev pub chosen_from : List NodeTree → ℕ → ℕ → Option ℕ
  chosen_from nodes zero k = None
  chosen_from nodes (suc steps) k = row_at (chosen_from nodes steps) (slice_get nodes k)

  abbrev pub chosen : List NodeTree → Option ℕ
  chosen nodes = chosen_from nodes (length nodes) 0

-- ---- that nodes name later nodes and rows that are there

-- the nodes to which a node leads
abbrev pub targets : NodeTree → List ℕ
targets (chooses row) = []
targets (tests at edges None) = map (λ edge. edge.next) edges
targets (tests at edges (Some other)) = other ∷ map (λ edge. edge.next) edges

-- the row that a node chooses, as a list
abbrev pub row_chosen : NodeTree → List ℕ
row_chosen (chooses row) = row ∷ []
row_chosen (tests at edges otherwise) = []

-- there is a first node, and each names later nodes that are there, and a row below that number
pub record AreOrderly (nodes : List NodeTree) (rows : ℕ) : Type 0 where
  pub first : 0 < length nodes
  pub later : (k j : ℕ) (node : NodeTree) → slice_get nodes k ≡ Some node → is_among (targets node) j ≡ true → (k < j) × (j < length nodes)
  pub below : (k row : ℕ) (node : NodeTree) → slice_get nodes k ≡ Some node → is_among (row_chosen node) row ≡ true → row < rows

abbrev pub IsOrderly : List Node → ℕ → Type 0
IsOrderly nodes rows = AreOrderly (map node_tree nodes) rows
