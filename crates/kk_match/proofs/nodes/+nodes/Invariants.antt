use Rattle.std.proofs.Common.{◌≡◌, ◌+◌, map, drop}
use Rattle.kk_syntax.specs.Patterns.{pattern_tree, patterns_of}
use Rattle.kk_syntax.specs.Shapes.{nodes_of_patterns}
use Rattle.kk_match.proofs.nodes.+nodes.Given as goal

abbrev pub invariant-nodes_of_patterns-loop-pattern : goal.invariant-nodes_of_patterns-loop-pattern
invariant-nodes_of_patterns-loop-pattern l =
    l.count + nodes_of_patterns (patterns_of (map pattern_tree (drop l.pattern-index l.patterns))) ≡ nodes_of_patterns (patterns_of (map pattern_tree l.patterns))
