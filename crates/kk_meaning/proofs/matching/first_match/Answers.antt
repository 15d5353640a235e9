use Rattle.std.proofs.Common.{◌≡◌, ◌+◌, Some, None, map, drop, arith, sym, ap, ◌∙◌, cond}
use Rattle.kk_syntax.specs.Patterns.{pattern_tree}
use Rattle.kk_syntax.specs.Trees.{row_tree, rows_of}
use Rattle.kk_source.specs.Matching.{matched, first_match}
use Rattle.kk_meaning.specs.View.{value_view, cell_view, bound_view, pushed}
use Rattle.kk_base.proofs.Lists.{rest_at}
use Rattle.kk_meaning.proofs.Patterns.{row_does_not}
use Rattle.kk_meaning.proofs.matching.first_match.Goals as goal

pub loop-row-preserved : goal.loop-row-preserved
loop-row-preserved c = λ environment.
    let store = map cell_view c.args.store.now in
    let v = value_view c.args.value in
    let row = c.row-item.result in
    let p = pattern_tree row.pattern in
    let none : matched store p v environment ≡ None =
    ap (λ l. matched store p v (pushed (map bound_view l) environment)) (sym c.new-bound.ensures.items)
    ∙ (c.in_ok-matches.ensures environment ∙ ap (λ yes. cond yes (Some (pushed (map bound_view c.matches.new.bound.items) environment)) None) c.if-branch.false) in
    sym (row_does_not store row (drop (c.loop-row.row-index + 1) c.args.rows.now) v environment none)
    ∙ (ap (λ rows. first_match store (rows_of (map row_tree rows)) v environment) (sym (rest_at c.args.rows.now c.loop-row.row-index row (omega arith) c.row-item.is))
    ∙ c.loop-row.invariant environment)
