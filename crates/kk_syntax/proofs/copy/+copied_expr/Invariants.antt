use Rattle.std.proofs.Common.{◌≡◌, map, take}
use Rattle.kk_syntax.specs.Trees.{expr_tree, row_tree, statement_tree}
use Rattle.kk_syntax.proofs.copy.+copied_expr.Given as goal

abbrev pub invariant-copied_exprs-loop-expr : goal.invariant-copied_exprs-loop-expr
invariant-copied_exprs-loop-expr l = map expr_tree l.copies.items ≡ map expr_tree (take l.expr-index l.exprs)

abbrev pub invariant-copied_rows-loop-row : goal.invariant-copied_rows-loop-row
invariant-copied_rows-loop-row l = map row_tree l.copies.items ≡ map row_tree (take l.row-index l.rows)

abbrev pub invariant-copied_statements-loop-statement : goal.invariant-copied_statements-loop-statement
invariant-copied_statements-loop-statement l = map statement_tree l.copies.items ≡ map statement_tree (take l.statement-index l.statements)
