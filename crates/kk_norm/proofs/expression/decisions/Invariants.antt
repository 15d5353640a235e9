use Rattle.std.proofs.Common.{◌≡◌, ◌++◌, map, drop}
use Rattle.kk_syntax.specs.Patterns.{pattern_tree}
use Rattle.kk_norm.proofs.expression.decisions.Given as goal

abbrev pub invariant-loop-row : goal.invariant-loop-row
invariant-loop-row l = map (λ p. pattern_tree p.now) l.patterns.items ++ map (λ r. pattern_tree r.pattern) (drop l.row-index l.rows) ≡ map (λ r. pattern_tree r.pattern) l.rows
