use Rattle.std.proofs.Common.{◌≡◌, ◌++◌, List, [], ◌∷◌, map, ap, sym, ◌∙◌}
use Rattle.std.specs.List.{flat_map}
use Rattle.kk_syntax.specs.declared.program.Row.{Row}
use Rattle.kk_syntax.specs.Shapes.{gathered_rows}
use Rattle.kk_syntax.specs.Trees.{expr_tree, row_tree, rows_of, statement_tree}
use Rattle.kk_syntax.proofs.PartCollections.{gathered_block}
use Rattle.kk_syntax.proofs.Views.{block_tree}
use Rattle.kk_rows.specs.Covered.{row_outlines}
use Rattle.kk_syntax.specs.Outlines.{Outline}
use Rattle.kk_cover.specs.Matches.{match_rows}
use Rattle.kk_syntax.specs.Matches.{of_matches, matches}
use Rattle.kk_rows.proofs.SubProblems.{on_ok}
use Rattle.kk_cover.proofs.ExpressionMatches.{matches_match, found_match, found_block, pushed_rows}
use Rattle.kk_cover.proofs.covering.+collect.Goals as goal

pub collect-returns-in_ok-collect-in-Match : goal.collect-returns-in_ok-collect-in-Match
collect-returns-in_ok-collect-in-Match t c =
    let old = match_rows c.args.all.now.items in
    let rows = c.in-Match.rows.items in
    let scrutinee = matches (expr_tree c.in-Match.scrutinee.value) in
    let bodies = gathered_rows of_matches (rows_of (map row_tree rows)) in
    let pushed : match_rows c.push.new.self.items ≡ old ++ (row_outlines rows ∷ []) =
    ap match_rows c.in_ok-push-in-Match.ensures.items
    ∙ (pushed_rows c.args.all.now.items c.as_slice.result ∙ ap (λ (rs : List Row). old ++ (row_outlines rs ∷ [])) c.as_slice.ensures.value) in
    let inner = rw c.deref-in-Match.ensures at c.in_ok-collect-in-Match.ensures in
    let whole = ap (λ e. matches (expr_tree e)) c.in-Match.is ∙ matches_match c.in-Match.scrutinee c.in-Match.rows in
    on_ok c.collect_rows.result _ _
    (λ (last : match_rows c.collect_rows.new.all.items ≡ match_rows c.collect-in-Match.new.all.items ++ bodies).
    found_match old (match_rows c.push.new.self.items) (match_rows c.collect-in-Match.new.all.items) (match_rows c.collect_rows.new.all.items) scrutinee bodies (row_outlines rows) pushed inner last
    ∙ ap (λ (xs : List (List Outline)). old ++ xs) (sym whole))
    (rw c.deref-in-Match-2.ensures.value at c.collect_rows.ensures)

pub collect-returns-in_ok-collect_statements-in-Block : goal.collect-returns-in_ok-collect_statements-in-Block
collect-returns-in_ok-collect_statements-in-Block t c =
    let old = match_rows c.args.all.now.items in
    let ss = map statement_tree c.in-Block.statements.items in
    let last = expr_tree c.in-Block.value.value in
    let first = rw c.deref-in-Block.ensures.value at c.in_ok-collect_statements-in-Block.ensures in
    let whole =
    ap (λ e. matches (expr_tree e)) c.in-Block.is
    ∙ (ap matches (block_tree c.in-Block.statements c.in-Block.value) ∙ gathered_block of_matches ss last) in
    on_ok c.collect-in-Block.result _ _
    (λ (rest : match_rows c.collect-in-Block.new.all.items ≡ match_rows c.collect_statements.new.all.items ++ matches last).
    found_block old (match_rows c.collect_statements.new.all.items) (match_rows c.collect-in-Block.new.all.items) (flat_map (λ s. matches s.value) ss) (matches last) first rest
    ∙ ap (λ (xs : List (List Outline)). old ++ xs) (sym whole))
    (rw c.deref-in-Block-2.ensures at c.collect-in-Block.ensures)
