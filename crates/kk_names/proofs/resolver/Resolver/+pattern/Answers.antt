use Rattle.std.proofs.Common.{◌≡◌, ◌+◌, List, [], ◌∷◌, ◌++◌, length, map, drop, vec_len, sym, ap, ◌∙◌, subst}
use Rattle.std.proofs.lemmas.List.{map-append, drop_all}
use Rattle.std.proofs.lemmas.Result.{IfOk-weaker}
use Rattle.kk_syntax.specs.declared.tree.SurfacePattern.{SurfacePattern}
use Rattle.kk_syntax.specs.Patterns.{Pattern, pattern_tree}
use Rattle.kk_syntax.specs.Surface.{WrittenPattern, WrittenPatterns, written_pattern, patterns_of}
use Rattle.kk_names.specs.Methods.{newest_first, ResolvesPattern}
use Rattle.kk_names.specs.Tables.{meaning_in}
use Rattle.kk_names.proofs.Patterns.{PatternsSoFar, patterns_more, patterns_done, constructor_resolved}
use Rattle.kk_names.proofs.WrittenForms.{pattern_written, next_pattern}
use Rattle.kk_names.proofs.resolver.Resolver.+pattern.Goals as goal

pub pattern-returns-in_ok-parts-in-Constructor : goal.pattern-returns-in_ok-parts-in-Constructor
pattern-returns-in_ok-parts-in-Constructor t c =
    let parts = c.in_ok-parts-in-Constructor.parts in
    let name = c.in-Constructor.name in
    let counted : vec_len parts ≡ length parts.items = parts.ok.0 in
    let ps = patterns_of (map written_pattern c.deref.result.now) in
    let old = c.args.self.now in
    let is = pattern_written c.args.pattern.now name c.in-Constructor.parts c.deref.result.now c.in-Constructor.is c.deref.ensures.value in
    let fresh = newest_first c.args.bound.now.items in
    let bound = newest_first c.patterns.new.bound.items in
    let means = c.meaning_in-callee.ensures ∙ ap (λ all. meaning_in all name.name) c.as_slice.ensures.value in
    IfOk-weaker c.constructed.result _ _
    (λ p made.
    subst (λ (w : WrittenPattern). ResolvesPattern w old c.constructed.new.self fresh bound (pattern_tree p)) (sym is)
    (constructor_resolved name ps c.meaning_in-callee.result old c.patterns.new.self c.constructed.new.self fresh bound parts.items (vec_len parts) (pattern_tree p)
    c.in_ok-parts-in-Constructor.ensures means made.0 counted made.1))
    c.constructed.ensures

pub patterns-loop-pattern-preserved : goal.patterns-loop-pattern-preserved
patterns-loop-pattern-preserved t c =
    let old = c.args.self.now in
    let now = c.loop-pattern.self in
    let left = patterns_of (map written_pattern (drop (c.loop-pattern.pattern-index + 1) c.args.patterns.now)) in
    let all = patterns_of (map written_pattern c.args.patterns.now) in
    let p = written_pattern c.pattern-item.result in
    let made = c.loop-pattern.resolved.items in
    let fresh = newest_first c.args.bound.now.items in
    let bound = newest_first c.loop-pattern.bound.items in
    let more = newest_first c.pattern.new.bound.items in
    let items : c.push.new.self.items ≡ made ++ c.in_ok-p.p ∷ [] = c.in_ok-push.ensures.items in
    let trees = ap (map pattern_tree) items ∙ map-append pattern_tree made (c.in_ok-p.p ∷ []) in
    let next = next_pattern c.args.patterns.now c.loop-pattern.pattern-index c.pattern-item.result c.pattern-item.is c.loop-pattern-test.true in
    subst (λ (ts : List Pattern). PatternsSoFar old c.pattern.new.self left all fresh more ts) (sym trees)
    (patterns_more old now c.pattern.new.self p left all fresh bound more (map pattern_tree made) (pattern_tree c.in_ok-p.p)
    (subst (λ (ps : WrittenPatterns). PatternsSoFar old now ps all fresh bound (map pattern_tree made)) next c.loop-pattern.invariant)
    c.in_ok-p.ensures)

pub patterns-returns : goal.patterns-returns
patterns-returns t c =
    let old = c.args.self.now in
    let now = c.loop-pattern.self in
    let all = patterns_of (map written_pattern c.args.patterns.now) in
    let fresh = newest_first c.args.bound.now.items in
    let bound = newest_first c.loop-pattern.bound.items in
    let made = map pattern_tree c.loop-pattern.resolved.items in
    patterns_done old now all fresh bound made
    (subst (λ (ps : List SurfacePattern). PatternsSoFar old now (patterns_of (map written_pattern ps)) all fresh bound made)
    (drop_all c.loop-pattern.pattern-index c.args.patterns.now c.loop-pattern-test.false) c.loop-pattern.invariant)
