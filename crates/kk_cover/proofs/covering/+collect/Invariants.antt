use Rattle.std.proofs.Common.{◌≡◌, ◌++◌, map, drop}
use Rattle.std.specs.List.{flat_map}
use Rattle.kk_syntax.specs.Shapes.{gathered_all, gathered_rows}
use Rattle.kk_syntax.specs.Trees.{expr_tree, trees_of, row_tree, rows_of, statement_tree}
use Rattle.kk_cover.specs.Matches.{match_rows}
use Rattle.kk_syntax.specs.Matches.{of_matches, matches}
use Rattle.kk_cover.proofs.covering.+collect.Given as goal

abbrev pub invariant-collect_each-loop-expr : goal.invariant-collect_each-loop-expr
invariant-collect_each-loop-expr l =
    match_rows l.all.items ++ gathered_all of_matches (trees_of (map expr_tree (drop l.expr-index l.exprs)))
    ≡ match_rows l.fn.all.items ++ gathered_all of_matches (trees_of (map expr_tree l.exprs))

abbrev pub invariant-collect_rows-loop-row : goal.invariant-collect_rows-loop-row
invariant-collect_rows-loop-row l =
    match_rows l.all.items ++ gathered_rows of_matches (rows_of (map row_tree (drop l.row-index l.rows)))
    ≡ match_rows l.fn.all.items ++ gathered_rows of_matches (rows_of (map row_tree l.rows))

abbrev pub invariant-collect_statements-loop-statement : goal.invariant-collect_statements-loop-statement
invariant-collect_statements-loop-statement l =
    match_rows l.all.items ++ flat_map (λ s. matches s.value) (map statement_tree (drop l.statement-index l.statements))
    ≡ match_rows l.fn.all.items ++ flat_map (λ s. matches s.value) (map statement_tree l.statements)
