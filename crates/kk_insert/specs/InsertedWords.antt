-- How many words of an image the functions of an inserted program take at most.
use Rattle.std.specs.Prelude.{◌≤◌, ℕ, ◌+◌, ◌*◌, false, List, [], ◌∷◌}
use Rattle.kk_core.specs.CodeNodes.{pattern_nodes, other_nodes, drops_words, plain_words, most_pair_words, HasBriefTests}
use Rattle.kk_core.specs.Codes.{Code, FunctionCode}
use Rattle.kk_counted.specs.CountedCodes.{CountedFunction}
use Rattle.kk_counted.specs.TokenWords.{code_words, token_words}

-- The words of a function with such a body: those of its forms, a drop of each parameter at its entry, and those that grow with pairs
-- of its nodes.
abbrev pub most_words : Code → ℕ
most_words body =
    plain_words body + drops_words
    + most_pair_words * (pattern_nodes [] false body + other_nodes body) * (pattern_nodes [] false body + other_nodes body)

-- each function whose tests are brief takes no more words, with those for its tokens
abbrev pub TakeFewWords : List FunctionCode → List CountedFunction → Type 0
TakeFewWords [] [] = Unit {0}
TakeFewWords (function ∷ functions) (counted ∷ others) =
    (HasBriefTests function.body → code_words counted.body + token_words 0 counted.body ≤ most_words function.body)
    × TakeFewWords functions others
TakeFewWords _ _ = ⊥
