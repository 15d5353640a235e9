-- How code goes on by a truth: as a case of the rows `True` and `False`.
use Rattle.std.specs.Prelude.{ℕ, List, [], ◌∷◌, Some}
use Rattle.kk_syntax.specs.Patterns.{Pattern, constructor, no_part}
use Rattle.kk_core.specs.Codes.{Code, case, no_arm, arm}
use Rattle.kk_core.specs.declared.decisions.Answer.TheVariants.{Constructor}
use Rattle.kk_core.specs.Decisions.{NodeTree, chooses, tests}

-- the patterns `True` and `False`
abbrev pub true_pattern : Pattern
true_pattern = constructor 1 no_part

abbrev pub false_pattern : Pattern
false_pattern = constructor 0 no_part

abbrev pub truth_patterns : List Pattern
truth_patterns = true_pattern ∷ false_pattern ∷ []

-- One test of the value itself, with one edge: `False` chooses the second row, and else the first is chosen.
abbrev pub truth_decisions : List NodeTree
truth_decisions = tests [] (record { found = Constructor 0; next = 2 } ∷ []) (Some 1) ∷ chooses 0 ∷ chooses 1 ∷ []

-- a code that goes on as the first code where the variable is `True`, and as the second where it is `False`
abbrev pub truth_case : ℕ → Code → Code → Code
truth_case x positive negative = case x truth_decisions (arm true_pattern positive (arm false_pattern negative no_arm))
