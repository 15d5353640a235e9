use Rattle.std.proofs.Common.{map, drop}
use Rattle.kk_syntax.specs.Patterns.{pattern_tree}
use Rattle.kk_syntax.specs.Surface.{written_pattern, patterns_of}
use Rattle.kk_names.specs.Methods.{newest_first}
use Rattle.kk_names.proofs.Patterns.{PatternsSoFar}
use Rattle.kk_names.proofs.resolver.Resolver.+pattern.Given as goal

abbrev pub invariant-patterns-loop-pattern : goal.invariant-patterns-loop-pattern
invariant-patterns-loop-pattern l =
    PatternsSoFar l.fn.self l.self (patterns_of (map written_pattern (drop l.pattern-index l.patterns))) (patterns_of (map written_pattern l.patterns))
    (newest_first l.fn.bound.items) (newest_first l.bound.items) (map pattern_tree l.resolved.items)
