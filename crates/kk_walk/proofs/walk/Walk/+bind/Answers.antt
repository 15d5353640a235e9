use Rattle.std.proofs.Common.{[], map, refl, ap, sym, ◌∙◌, subst}
use Rattle.kk_syntax.specs.Patterns.{pattern_tree, patterns_of}
use Rattle.kk_syntax.specs.Shapes.{bound, bound_all}
use Rattle.kk_walk.specs.Steps.{BindsEach}
use Rattle.kk_syntax.proofs.PatternViews.{variable_tree, constructor_tree}
use Rattle.kk_walk.proofs.Patterns.{nothing_bound, binds_none, binds_one, binds_part}
use Rattle.kk_walk.proofs.walk.Walk.+bind.Goals as goal

pub loop-part-init : goal.loop-part-init
loop-part-init t c = (
  [],
  binds_none c.args.self.now,
  ap (λ parts. bound_all (patterns_of (map pattern_tree parts))) c.deref-part-items.ensures.value
      ∙ sym (ap (λ p. bound (pattern_tree p)) c.in-Constructor.is ∙ ap bound (constructor_tree c.in-Constructor.field-0 c.in-Constructor.parts)),
)

pub loop-part-preserved : goal.loop-part-preserved
loop-part-preserved t c =
    let here = c.loop-part.invariant in
    binds_part c.args.self.now c.loop-part.self c.bind.new.self here.0 c.deref-part-items.result.now c.loop-part.part-index c.part-item.result (bound (pattern_tree c.args.pattern.now)) c.loop-part-test.true c.part-item.is here.1 here.2 c.in_ok-bind-in-Constructor.ensures

pub returns-in_ok-push-in-Variable : goal.returns-in_ok-push-in-Variable
returns-in_ok-push-in-Variable t c =
    subst (BindsEach c.args.self.now _) (sym (ap (λ p. bound (pattern_tree p)) c.in-Variable.is ∙ ap bound (variable_tree c.in-Variable.variable)))
    (binds_one c.args.self.now c.take.new.self _ c.in-Variable.variable c.in_ok-node-in-Variable.node _ c.in_ok-node-in-Variable.ensures refl refl c.in_ok-push-in-Variable.ensures.items refl refl refl)

pub returns-in-Wildcard : goal.returns-in-Wildcard
returns-in-Wildcard t c =
    subst (BindsEach c.args.self.now c.args.self.now) (sym (nothing_bound c.args.pattern.now c.in-Wildcard.is)) (binds_none c.args.self.now)

pub returns-in-Wildcard-2 : goal.returns-in-Wildcard-2
returns-in-Wildcard-2 t c =
    subst (BindsEach c.args.self.now c.args.self.now) (sym (nothing_bound c.args.pattern.now c.in-Wildcard.is)) (binds_none c.args.self.now)
