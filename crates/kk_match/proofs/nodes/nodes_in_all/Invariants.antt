use Rattle.std.proofs.Common.{◌≡◌, ◌+◌, map, drop}
use Rattle.std.specs.Prelude.{sum_by}
use Rattle.kk_syntax.specs.Patterns.{pattern_tree}
use Rattle.kk_syntax.specs.Shapes.{nodes_of_pattern}
use Rattle.kk_match.proofs.nodes.nodes_in_all.Given as goal

abbrev pub invariant-loop-pattern : goal.invariant-loop-pattern
invariant-loop-pattern l =
    l.count + sum_by nodes_of_pattern (map (λ p. pattern_tree p.now) (drop l.pattern-index l.patterns)) ≡ sum_by nodes_of_pattern (map (λ p. pattern_tree p.now) l.patterns)
