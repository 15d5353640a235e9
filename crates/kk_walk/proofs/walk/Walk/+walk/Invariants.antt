use Rattle.std.proofs.Common.{map, drop}
use Rattle.kk_syntax.specs.Programs.{program_tree}
use Rattle.kk_syntax.specs.Trees.{statement_tree}
use Rattle.kk_walk.specs.Steps.{Goes, GoesInto}
use Rattle.kk_walk.proofs.ArgumentWalk.{left_of}
use Rattle.kk_walk.proofs.RowsOf.{cases_at}
use Rattle.kk_walk.proofs.walk.Walk.+walk.Given as goal

abbrev pub invariant-arguments-loop-index : goal.invariant-arguments-loop-index
invariant-arguments-loop-index l =
    Goes l.fn.self l.self (left_of (program_tree l.program) l.arguments l.wants l.fn.self.scope.items 0) (left_of (program_tree l.program) l.arguments l.wants l.fn.self.scope.items l.index)

abbrev pub invariant-statements-loop-statement : goal.invariant-statements-loop-statement
invariant-statements-loop-statement l =
    GoesInto (program_tree l.program) l.fn.self l.self (map statement_tree l.statements) (map statement_tree (drop l.statement-index l.statements))

abbrev pub invariant-rows-loop-row : goal.invariant-rows-loop-row
invariant-rows-loop-row l =
    Goes l.fn.self l.self (cases_at (program_tree l.program) l.fn.self.scope.items l.scrutinee l.want l.rows) (cases_at (program_tree l.program) l.fn.self.scope.items l.scrutinee l.want (drop l.row-index l.rows))
