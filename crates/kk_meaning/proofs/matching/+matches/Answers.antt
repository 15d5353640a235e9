use Rattle.std.proofs.Common.{Some, map, sym, ap, ◌∙◌, arith}
use Rattle.std.proofs.lemmas.List.{length-map}
use Rattle.kk_syntax.specs.Patterns.{pattern_tree}
use Rattle.kk_source.specs.Matching.{matched}
use Rattle.kk_meaning.specs.View.{value_view, cell_view, bound_view, pushed}
use Rattle.kk_meaning.proofs.Patterns.{unequal, variable_is, bound_more}
use Rattle.kk_meaning.proofs.matching.+matches.Goals as goal

pub matches-returns-in_ok-push-in-Variable : goal.matches-returns-in_ok-push-in-Variable
matches-returns-in_ok-push-in-Variable t c = λ environment.
    let store = map cell_view c.args.store.now in
    let v = value_view c.args.value in
    let before = pushed (map bound_view c.args.bound.now.items) environment in
    ap (λ p. matched store (pattern_tree p) v before) c.in-Variable.is
    ∙ (ap (λ p. matched store p v before) (variable_is c.in-Variable.variable)
    ∙ ap Some (sym (bound_more c.args.bound.now.items c.push.new.self.items _ environment c.in_ok-push-in-Variable.ensures.items)))

pub matches_each-returns-then-patterns-values : goal.matches_each-returns-then-patterns-values
matches_each-returns-then-patterns-values t c = λ environment.
    unequal (map cell_view c.args.store.now) (map pattern_tree c.args.patterns.now) (map value_view c.args.values.now) (pushed (map bound_view c.args.bound.now.items) environment)
    (λ same. c.if-patterns-values.true (omega (arith, length-map c.args.patterns.now pattern_tree, length-map c.args.values.now value_view)))
