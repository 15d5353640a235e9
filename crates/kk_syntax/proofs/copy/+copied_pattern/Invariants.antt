use Rattle.std.proofs.Common.{◌≡◌, map, take}
use Rattle.kk_syntax.specs.Patterns.{pattern_tree}
use Rattle.kk_syntax.proofs.copy.+copied_pattern.Given as goal

abbrev pub invariant-copied_patterns-loop-pattern : goal.invariant-copied_patterns-loop-pattern
invariant-copied_patterns-loop-pattern l = map pattern_tree l.copies.items ≡ map pattern_tree (take l.pattern-index l.patterns)
