use Rattle.std.proofs.Common.{arith}
use Rattle.std.proofs.lemmas.Grind.{common_steps}
use Rattle.kk_borrow.proofs.Scopes.{all_hung-append}
use Rattle.kk_borrow.proofs.scope.+bind.Goals as goal

pub bind_each-loop-pattern-preserved : goal.bind_each-loop-pattern-preserved
bind_each-loop-pattern-preserved t c = grind (arith, common_steps, all_hung-append)
