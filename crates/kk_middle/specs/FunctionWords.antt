-- How many words of an image the functions of a compiled program take.
use Rattle.std.specs.Prelude.{ℕ, ◌+◌, ◌*◌, ◌≤◌, List, [], ◌∷◌}
use Rattle.kk_syntax.specs.Programs.{FunctionTree}
use Rattle.kk_syntax.specs.Shapes.{nodes_of}
use Rattle.kk_core.specs.CodeNodes.{drops_words, most_node_words, most_pair_words}
use Rattle.kk_counted.specs.TokenedCodes.{TokenedFunction}
use Rattle.kk_counted.specs.TokenedWords.{tokened_words}

-- The most words of a function whose body has so many nodes: those of a drop of each parameter, so many for each node, and so many
-- for each pair of nodes.
abbrev pub most_function_words : ℕ → ℕ
most_function_words nodes = drops_words + most_node_words * nodes + most_pair_words * (nodes * nodes)

-- each function takes no more, by the nodes of the body that it is made of
abbrev pub HaveFewWords : List FunctionTree → List TokenedFunction → Type 0
HaveFewWords [] [] = Unit {0}
HaveFewWords (instance ∷ instances) (function ∷ functions) =
    (tokened_words function.body ≤ most_function_words (nodes_of instance.body)) × HaveFewWords instances functions
HaveFewWords _ _ = ⊥
