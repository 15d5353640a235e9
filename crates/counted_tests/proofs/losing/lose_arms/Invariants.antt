use Rattle.std.proofs.Common.{◌≡◌, true, length}
use Rattle.kk_emitter.specs.Emissions.{counted_of}
use Rattle.kk_emitter.specs.Works.{left_in}
use Rattle.counted_tests.proofs.losing.lose_arms.Given as goal

abbrev pub invariant-loop-debts : goal.invariant-loop-debts
invariant-loop-debts l = (counted_of l.emitter).failed ≡ true

abbrev pub decreases-loop-debts : goal.decreases-loop-debts
decreases-loop-debts l = length (left_in l.arms.left.items)
