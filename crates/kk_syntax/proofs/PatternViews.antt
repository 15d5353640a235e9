-- Patterns of the program as trees, by their forms.
use Rattle.std.proofs.Common.{◌≡◌, ℕ, map, ap, sym, ◌∙◌}
use Rattle.kk_syntax.specs.declared.program.Pat.TheVariants.{Wildcard, rolls-Wildcard, Variable, rolls-Variable, Number, rolls-Number, Constructor, rolls-Constructor}
use Rattle.kk_syntax.specs.declared.program.Pat.TheFolds.{fold-roll-Pat}
use Rattle.kk_syntax.specs.Patterns.{Pattern, anything, variable, exactly, constructor, patterns_of, pattern_step, pattern_tree}

pub wildcard_tree : pattern_tree Wildcard ≡ anything
wildcard_tree = ap pattern_tree (sym rolls-Wildcard) ∙ fold-roll-Pat Pattern pattern_step _

pub variable_tree : (x : ℕ) → pattern_tree (Variable x) ≡ variable x
variable_tree x = ap pattern_tree (sym (rolls-Variable x)) ∙ fold-roll-Pat Pattern pattern_step _

pub number_tree : (n : _) → pattern_tree (Number n) ≡ exactly n
number_tree n = ap pattern_tree (sym (rolls-Number n)) ∙ fold-roll-Pat Pattern pattern_step _

pub constructor_tree : (c : ℕ) (parts : _) → pattern_tree (Constructor c parts) ≡ constructor c (patterns_of (map pattern_tree parts.items))
constructor_tree c parts = ap pattern_tree (sym (rolls-Constructor c parts)) ∙ fold-roll-Pat Pattern pattern_step _
