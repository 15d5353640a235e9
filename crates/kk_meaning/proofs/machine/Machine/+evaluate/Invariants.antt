-- A block goes to its value at the same step where it has no statements.
use Rattle.std.proofs.Common.{◌+◌, ◌*◌}
use Rattle.kk_syntax.specs.declared.program.Expr.{size-Expr}
use Rattle.kk_meaning.proofs.machine.Machine.+evaluate.Given as goal

abbrev pub decreases-evaluate : goal.decreases-evaluate
decreases-evaluate l = 2 * size-Expr l.expr.now

abbrev pub decreases-enter : goal.decreases-enter
decreases-enter l = 2 * size-Expr l.rest.value.now + 1
