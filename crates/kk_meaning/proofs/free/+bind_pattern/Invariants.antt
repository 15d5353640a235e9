use Rattle.std.proofs.Common.{◌≡◌, ◌++◌, map, drop}
use Rattle.kk_syntax.specs.Patterns.{pattern_tree, patterns_of}
use Rattle.kk_syntax.specs.Shapes.{bound_all}
use Rattle.kk_meaning.proofs.free.+bind_pattern.Given as goal

abbrev pub invariant-bind_patterns-loop-pattern : goal.invariant-bind_patterns-loop-pattern
invariant-bind_patterns-loop-pattern l =
    l.bound.items ++ bound_all (patterns_of (map pattern_tree (drop l.pattern-index l.patterns))) ≡ l.fn.bound.items ++ bound_all (patterns_of (map pattern_tree l.patterns))
