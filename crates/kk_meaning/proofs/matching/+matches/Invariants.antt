use Rattle.std.proofs.Common.{◌≡◌, map, drop}
use Rattle.kk_syntax.specs.Patterns.{pattern_tree, patterns_of}
use Rattle.kk_source.specs.State.{Environment}
use Rattle.kk_source.specs.Matching.{matched_all}
use Rattle.kk_meaning.specs.View.{value_view, cell_view, bound_view, pushed}
use Rattle.kk_meaning.proofs.matching.+matches.Given as goal

abbrev pub invariant-matches_each-loop-i : goal.invariant-matches_each-loop-i
invariant-matches_each-loop-i l = (environment : Environment) → matched_all (map cell_view l.store) (patterns_of (map pattern_tree (drop l.i l.patterns))) (map value_view (drop l.i l.values)) (pushed (map bound_view l.bound.items) environment) ≡ matched_all (map cell_view l.store) (patterns_of (map pattern_tree l.patterns)) (map value_view l.values) (pushed (map bound_view l.fn.bound.items) environment)
