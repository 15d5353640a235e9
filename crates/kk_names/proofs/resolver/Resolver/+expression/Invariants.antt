use Rattle.std.proofs.Common.{◌+◌, ◌*◌, ◌≤◌, max, map, drop}
use Rattle.kk_syntax.specs.declared.tree.SurfaceExpr.{size-SurfaceExpr}
use Rattle.kk_syntax.specs.Depths.{deepest, surface_depth, surface_row_depth, surface_statement_depth, depth_of, depth_of_row, depth_of_statement}
use Rattle.kk_syntax.specs.Surface.{written_expr, written_row, written_statement, rows_of, writtens_of}
use Rattle.kk_syntax.specs.Trees.{expr_tree, row_tree, statement_tree}
use Rattle.kk_names.proofs.Arguments.{AllSoFar}
use Rattle.kk_names.proofs.Rows.{RowsSoFar}
use Rattle.kk_names.proofs.Statements.{StatementsSoFar}
use Rattle.kk_names.proofs.WrittenForms.{option_size}
use Rattle.kk_names.proofs.resolver.Resolver.+expression.Given as goal

abbrev pub invariant-expressions-loop-expr : goal.invariant-expressions-loop-expr
invariant-expressions-loop-expr l =
    AllSoFar l.fn.self l.self (writtens_of (map written_expr (drop l.expr-index l.exprs))) (writtens_of (map written_expr l.exprs)) (map expr_tree l.resolved.items)
    × (deepest (map depth_of l.resolved.items) ≤ deepest (map surface_depth l.exprs))

abbrev pub invariant-statements-loop-statement : goal.invariant-statements-loop-statement
invariant-statements-loop-statement l =
    StatementsSoFar l.fn.self l.self (map written_statement (drop l.statement-index l.statements)) (map written_statement l.statements) (map statement_tree l.resolved.items)
    × (deepest (map depth_of_statement l.resolved.items) ≤ deepest (map surface_statement_depth l.statements))

abbrev pub decreases-expression : goal.decreases-expression
decreases-expression l = 4 * size-SurfaceExpr l.expr.now

abbrev pub decreases-statement : goal.decreases-statement
decreases-statement l = 4 * goal.size-statement l

abbrev pub decreases-expressions : goal.decreases-expressions
decreases-expressions l = 4 * goal.size-expressions l + 1

abbrev pub decreases-statements : goal.decreases-statements
decreases-statements l = 4 * goal.size-statements l + 1

abbrev pub decreases-dot_call : goal.decreases-dot_call
decreases-dot_call l = 4 * max (goal.size-dot_call l) (size-SurfaceExpr l.first.now) + 2

abbrev pub decreases-both : goal.decreases-both
decreases-both l = 4 * max (size-SurfaceExpr l.left.now) (size-SurfaceExpr l.right.now) + 2

abbrev pub decreases-either : goal.decreases-either
decreases-either l = 4 * max (size-SurfaceExpr l.left.now) (size-SurfaceExpr l.right.now) + 2

abbrev pub decreases-choice : goal.decreases-choice
decreases-choice l = 4 * max (size-SurfaceExpr l.condition.now) (max (size-SurfaceExpr l.positive.now) (option_size l.negative.now)) + 2

abbrev pub decreases-block : goal.decreases-block
decreases-block l = 4 * max (goal.size-block l) (size-SurfaceExpr l.value.now) + 2

abbrev pub decreases-matching : goal.decreases-matching
decreases-matching l = 4 * max (goal.size-matching l) (size-SurfaceExpr l.scrutinee.now) + 2

abbrev pub decreases-rows : goal.decreases-rows
decreases-rows l = 4 * goal.size-rows l + 1

abbrev pub decreases-row : goal.decreases-row
decreases-row l = 4 * goal.size-row l

abbrev pub invariant-rows-loop-row : goal.invariant-rows-loop-row
invariant-rows-loop-row l =
    RowsSoFar l.fn.self l.self (rows_of (map written_row (drop l.row-index l.rows))) (rows_of (map written_row l.rows)) (map row_tree l.resolved.items)
    × (deepest (map depth_of_row l.resolved.items) ≤ deepest (map surface_row_depth l.rows))
