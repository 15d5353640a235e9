use Rattle.std.proofs.Common.{◌≡◌, ◌-◌, ◌^◌, min, map, ◌+◌, ◌<◌, drop}
use Rattle.kk_syntax.specs.Trees.{expr_tree, trees_of, row_tree, rows_of, statement_tree}
use Rattle.kk_syntax.specs.Shapes.{nodes_of_all, nodes_of_rows, nodes_of_statements}
use Rattle.kk_syntax.proofs.shape.+nodes.Given as goal

abbrev pub invariant-nodes_of_each-loop-expr : goal.invariant-nodes_of_each-loop-expr
invariant-nodes_of_each-loop-expr l =
    (l.sum < 2 ^ 64) × (min (l.sum + nodes_of_all (trees_of (map expr_tree (drop l.expr-index l.exprs)))) (2 ^ 64 - 1) ≡ min (nodes_of_all (trees_of (map expr_tree l.exprs))) (2 ^ 64 - 1))

abbrev pub invariant-nodes_of_each_row-loop-row : goal.invariant-nodes_of_each_row-loop-row
invariant-nodes_of_each_row-loop-row l =
    (l.sum < 2 ^ 64) × (min (l.sum + nodes_of_rows (rows_of (map row_tree (drop l.row-index l.rows)))) (2 ^ 64 - 1) ≡ min (nodes_of_rows (rows_of (map row_tree l.rows))) (2 ^ 64 - 1))

abbrev pub invariant-nodes_of_each_statement-loop-statement : goal.invariant-nodes_of_each_statement-loop-statement
invariant-nodes_of_each_statement-loop-statement l =
    (l.sum < 2 ^ 64) × (min (l.sum + nodes_of_statements (map statement_tree (drop l.statement-index l.statements))) (2 ^ 64 - 1) ≡ min (nodes_of_statements (map statement_tree l.statements)) (2 ^ 64 - 1))
