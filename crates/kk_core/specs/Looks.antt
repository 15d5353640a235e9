-- How much the tests of decisions look at on the way to a row.
use Rattle.std.specs.Prelude.{ℕ, zero, suc, ◌+◌, ◌≤◌, List, length, Option, Some, None, slice_get}
use Rattle.kk_source.specs.State.{Value, Cell}
use Rattle.kk_source.specs.Matching.{and_then}
use Rattle.kk_core.specs.Decisions.{NodeTree, chooses, tests, found_at, next_by}

-- what is looked at behind a test, if it leads on
abbrev pub looks_behind : (ℕ → ℕ) → Option ℕ → ℕ
looks_behind behind None = 0
looks_behind behind (Some k) = behind k

module _ (cells : ℕ → Option Cell) (v : Value) where
  -- A test looks at its node, at each field on the way to its position and at each of its edges; and then come the nodes to which the
  -- value leads.
  abbrev pub looks_at : (ℕ → ℕ) → Option NodeTree → ℕ
  looks_at behind None = 0
  looks_at behind (Some (chooses row)) = 0
  looks_at behind (Some (tests at edges otherwise)) =
      suc (length at + length edges) + looks_behind behind (and_then (found_at cells at v) (next_by edges otherwise))

  -- what the nodes look at that a value goes through, from the one of a number on, within so many steps
  abbrev pub looks_from : List NodeTree → ℕ → ℕ → ℕ
  looks_from nodes zero k = 0
  looks_from nodes (suc steps) k = looks_at (looks_from nodes steps) (slice_get nodes k)

  abbrev pub looks_taken : List NodeTree → ℕ
  looks_taken nodes = looks_from nodes (length nodes) 0

-- No value goes through nodes that look at more than so much, from whichever node on.
abbrev pub HasFewLooks : List NodeTree → ℕ → Type 0
HasFewLooks nodes most = (cells : ℕ → Option Cell) (v : Value) (steps k : ℕ) → looks_from cells v nodes steps k ≤ most
