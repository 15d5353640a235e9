-- Nodes in the other order: what stood behind those that it names now stands before them.
use Rattle.std.specs.Prelude.{ℕ, ◌-◌, List, [], ◌∷◌, ◌++◌, map, option_map}
use Rattle.kk_core.specs.declared.decisions.Edge.{Edge}
use Rattle.kk_core.specs.Decisions.{NodeTree, chooses, tests}

abbrev pub turn_edge : ℕ → Edge → Edge
turn_edge last edge = record { found = edge.found; next = last - edge.next }

-- a node, where the last one gets the number 0
abbrev pub turn_node : ℕ → NodeTree → NodeTree
turn_node last (chooses row) = chooses row
turn_node last (tests at edges otherwise) = tests at (map (turn_edge last) edges) (option_map (λ j. last - j) otherwise)

abbrev pub turned : ℕ → List NodeTree → List NodeTree
turned last [] = []
turned last (node ∷ nodes) = turned last nodes ++ turn_node last node ∷ []
