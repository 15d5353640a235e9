-- The rows tried one after the other. Each node stands behind those that it names.
use Rattle.std.specs.Prelude.{ℕ, ◌-◌, List, [], ◌∷◌, ◌++◌, length, Some}
use Rattle.kk_core.specs.Decisions.{NodeTree, chooses, tests}
use Rattle.kk_match.specs.Parts.{Part}
use Rattle.kk_match.specs.Graphs.{LineTree, StateTree}

-- the test of a part, which leads to the last of some nodes, or else to `other`
abbrev pub with_part : ℕ → Part → List NodeTree → List NodeTree
with_part other q nodes = nodes ++ tests q.at (record { found = q.asked; next = length nodes - 1 } ∷ []) (Some other) ∷ []

-- the tests of parts, the first one last
abbrev pub with_parts : ℕ → List Part → List NodeTree → List NodeTree
with_parts other [] nodes = nodes
with_parts other (q ∷ qs) nodes = with_part other q (with_parts other qs nodes)

-- A row behind the next ones: where a part fails the next row is tried. Behind the last row there is none, and anything will
-- do.
abbrev pub with_row : LineTree → List NodeTree → List NodeTree
with_row line nodes = with_parts (length nodes - 1) line.left (nodes ++ chooses line.row ∷ [])

abbrev pub with_rows : StateTree → List NodeTree → List NodeTree
with_rows [] nodes = nodes
with_rows (line ∷ lines) nodes = with_row line (with_rows lines nodes)
