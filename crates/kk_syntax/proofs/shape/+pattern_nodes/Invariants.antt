use Rattle.std.proofs.Common.{◌≡◌, ◌-◌, ◌^◌, min, map, ◌+◌, ◌<◌, drop}
use Rattle.kk_syntax.specs.Patterns.{pattern_tree, patterns_of}
use Rattle.kk_syntax.specs.Shapes.{nodes_of_patterns}
use Rattle.kk_syntax.proofs.shape.+pattern_nodes.Given as goal

abbrev pub invariant-nodes_of_each_pattern-loop-pattern : goal.invariant-nodes_of_each_pattern-loop-pattern
invariant-nodes_of_each_pattern-loop-pattern l =
    (l.sum < 2 ^ 64) × (min (l.sum + nodes_of_patterns (patterns_of (map pattern_tree (drop l.pattern-index l.patterns)))) (2 ^ 64 - 1) ≡ min (nodes_of_patterns (patterns_of (map pattern_tree l.patterns))) (2 ^ 64 - 1))
