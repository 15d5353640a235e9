-- How many edges are looked at where decisions choose a row.
use Rattle.std.specs.Prelude.{ℕ, zero, suc, ◌+◌, ◌≤◌, List, length, Option, Some, None, slice_get}
use Rattle.kk_source.specs.State.{Value, Cell}
use Rattle.kk_source.specs.Matching.{and_then}
use Rattle.kk_core.specs.Decisions.{NodeTree, chooses, tests, found_at, next_by}

-- those that come behind a test, if it leads on
abbrev pub edges_behind : (ℕ → ℕ) → Option ℕ → ℕ
edges_behind behind None = 0
edges_behind behind (Some k) = behind k

module _ (cells : ℕ → Option Cell) (v : Value) where
  -- the edges of a node, and of those behind it to which the value leads
  abbrev pub edges_at : (ℕ → ℕ) → Option NodeTree → ℕ
  edges_at behind None = 0
  edges_at behind (Some (chooses row)) = 0
  edges_at behind (Some (tests at edges otherwise)) =
      length edges + edges_behind behind (and_then (found_at cells at v) (next_by edges otherwise))

  -- the edges of the nodes that a value goes through, from the one of a number on, within so many steps
  abbrev pub edges_from : List NodeTree → ℕ → ℕ → ℕ
  edges_from nodes zero k = 0
  edges_from nodes (suc steps) k = edges_at (edges_from nodes steps) (slice_get nodes k)

-- No value goes through nodes with more edges than so many, from whichever node on.
abbrev pub HasFewEdges : List NodeTree → ℕ → Type 0
HasFewEdges nodes most = (cells : ℕ → Option Cell) (v : Value) (steps k : ℕ) → edges_from cells v nodes steps k ≤ most
