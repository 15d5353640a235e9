use Rattle.std.proofs.Common.{◌++◌, List, sym, ap, ◌∙◌, subst, arith}
use Rattle.std.specs.Borrow.{Bor}
use Rattle.kk_syntax.specs.declared.program.Row.{Row}
use Rattle.kk_syntax.specs.Programs.{program_tree}
use Rattle.kk_syntax.specs.Covered.{Each}
use Rattle.kk_syntax.specs.Shapes.{nodes_of}
use Rattle.kk_syntax.specs.Trees.{expr_tree}
use Rattle.kk_rows.specs.Covered.{Answers}
use Rattle.kk_syntax.specs.Outlines.{pattern_outline}
use Rattle.kk_syntax.specs.Matches.{matches}
use Rattle.kk_cover.specs.Matches.{match_rows, IsFirstMissed}
use Rattle.kk_rows.proofs.RowBounds.{Within, match_nodes}
use Rattle.kk_cover.proofs.ExpressionMatches.{first_at, covered_more, rows_within}
use Rattle.kk_cover.proofs.covering.first.Goals as goal

pub returns-in-Some : goal.returns-in-Some
returns-in-Some c =
    let program = program_tree c.args.program.now in
    let all = c.deref-rows-items.result.now in
    let all_is =
    ap match_rows c.deref-rows-items.ensures.value
    ∙ (c.in_ok-collect.ensures ∙ ap (λ (xs : List (Bor (List Row))). match_rows xs ++ matches (expr_tree c.args.expr.now)) c.new-all.ensures.items) in
    let example = subst (Answers c.args.program.now c.rows-item.result.now) c.in-Some.is c.in_ok-example.ensures in
    let first =
    subst (λ ms. IsFirstMissed program ms (pattern_outline c.in-Some.example)) all_is
    (first_at program all c.loop-rows.rows-index c.rows-item.result c.in-Some.example c.loop-rows-test.true c.rows-item.is c.loop-rows.invariant example.missed) in
    (first, example.small)

pub loop-rows-preserved : goal.loop-rows-preserved
loop-rows-preserved c =
    let covered = subst (Answers c.args.program.now c.rows-item.result.now) c.in_default.is c.in_ok-example.ensures in
    covered_more (program_tree c.args.program.now) c.deref-rows-items.result.now c.loop-rows.rows-index c.rows-item.result c.loop-rows-test.true c.rows-item.is c.loop-rows.invariant covered

pub uncovered-requires : goal.uncovered-requires
uncovered-requires c =
    let n = nodes_of (expr_tree c.args.expr.now) in
    let all = c.deref-rows-items.result.now in
    let all_is =
    ap match_rows c.deref-rows-items.ensures.value
    ∙ (c.in_ok-collect.ensures ∙ ap (λ (xs : List (Bor (List Row))). match_rows xs ++ matches (expr_tree c.args.expr.now)) c.new-all.ensures.items) in
    let few = rows_within n all c.loop-rows.rows-index c.rows-item.result c.loop-rows-test.true c.rows-item.is (subst (Each (Within n)) (sym all_is) (match_nodes (expr_tree c.args.expr.now))) in
    omega (arith, few, c.requires)
