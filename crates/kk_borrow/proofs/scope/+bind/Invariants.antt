use Rattle.std.proofs.Common.{◌≡◌, ◌++◌, map, drop}
use Rattle.kk_syntax.specs.Patterns.{pattern_tree, patterns_of}
use Rattle.kk_syntax.specs.Shapes.{bound_all}
use Rattle.kk_borrow.specs.Demands.{all_hung}
use Rattle.kk_borrow.proofs.scope.+bind.Given as goal

abbrev pub invariant-bind_each-loop-pattern : goal.invariant-bind_each-loop-pattern
invariant-bind_each-loop-pattern l = l.scope.bindings.items ++ all_hung (bound_all (patterns_of (map pattern_tree (drop l.pattern-index l.patterns)))) l.origins ≡ l.fn.scope.bindings.items ++ all_hung (bound_all (patterns_of (map pattern_tree l.patterns))) l.origins
