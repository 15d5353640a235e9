use Rattle.std.proofs.Common.{◌+◌, ◌++◌, map, drop, sym, ap, ◌∙◌, append_assoc}
use Rattle.kk_syntax.specs.Patterns.{pattern_tree, patterns_of}
use Rattle.kk_syntax.specs.Shapes.{bound, bound_all}
use Rattle.kk_syntax.proofs.ProgramTrees.{next_part}
use Rattle.kk_meaning.proofs.free.+bind_pattern.Goals as goal

pub bind_patterns-loop-pattern-preserved : goal.bind_patterns-loop-pattern-preserved
bind_patterns-loop-pattern-preserved t c =
    let part = c.pattern-item.result in
    let later = patterns_of (map pattern_tree (drop (c.loop-pattern.pattern-index + 1) c.args.patterns.now)) in
    let rest = next_part c.args.patterns.now c.loop-pattern.pattern-index part c.pattern-item.is c.loop-pattern-test.true in
    let bs = c.loop-pattern.bound.items in
    ap (λ l. l ++ bound_all later) c.in_ok-bind_pattern.ensures
    ∙ (append_assoc bs (bound (pattern_tree part)) (bound_all later)
    ∙ (ap (λ left. bs ++ bound_all left) (sym rest) ∙ c.loop-pattern.invariant))
