-- The recursion goes by the size of the expression; a block is written by the call that writes its end, and that by the
-- one that writes a value.
use Rattle.std.proofs.Common.{◌+◌, ◌*◌, max, map, drop}
use Rattle.kk_syntax.specs.declared.program.Expr.{size-Expr}
use Rattle.kk_syntax.specs.GroundPrograms.{ground_program}
use Rattle.kk_syntax.specs.Trees.{expr_tree, row_tree, rows_of, statement_tree, trees_of}
use Rattle.kk_core.specs.Codes.{arm_code}
use Rattle.kk_norm.proofs.WriterLoops.{ValuesSoFar, StatementsSoFar}
use Rattle.kk_norm.proofs.MatchLoop.{ArmsSoFar}
use Rattle.kk_norm.proofs.writer.Writer.+code.Given as goal

abbrev pub decreases-value : goal.decreases-value
decreases-value l = 4 * size-Expr l.expr.now

abbrev pub decreases-end : goal.decreases-end
decreases-end l = 4 * size-Expr l.expr.now + 1

abbrev pub decreases-block : goal.decreases-block
decreases-block l = 4 * size-Expr l.expr.now + 2

abbrev pub decreases-choice : goal.decreases-choice
decreases-choice l = 4 * max (size-Expr l.condition.now) (max (size-Expr l.positive.now) (size-Expr l.negative.now)) + 3

abbrev pub decreases-case : goal.decreases-case
decreases-case l = 4 * max (goal.size-case l) (size-Expr l.scrutinee.now) + 3

abbrev pub decreases-arms : goal.decreases-arms
decreases-arms l = 4 * goal.size-arms l + 2

abbrev pub decreases-arm : goal.decreases-arm
decreases-arm l = 4 * size-Expr l.body.now + 2

abbrev pub decreases-values : goal.decreases-values
decreases-values l = 4 * goal.size-values l + 3

abbrev pub decreases-statements : goal.decreases-statements
decreases-statements l = 4 * goal.size-statements l + 3

abbrev pub invariant-values-loop-expr : goal.invariant-values-loop-expr
invariant-values-loop-expr l = ValuesSoFar (ground_program l.given).constructors l.fn.self l.self (trees_of (map expr_tree (drop l.expr-index l.exprs))) (trees_of (map expr_tree l.exprs)) l.variables.items

abbrev pub invariant-statements-loop-statement : goal.invariant-statements-loop-statement
invariant-statements-loop-statement l = StatementsSoFar (ground_program l.given).constructors l.fn.self l.self (map statement_tree (drop l.statement-index l.statements)) (map statement_tree l.statements)

abbrev pub invariant-arms-loop-row : goal.invariant-arms-loop-row
invariant-arms-loop-row l = ArmsSoFar (ground_program l.given).constructors l.tail l.on l.fn.self l.self (rows_of (map row_tree (drop l.row-index l.rows))) (rows_of (map row_tree l.rows)) (map arm_code l.arms.items)
