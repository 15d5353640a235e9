use Rattle.std.proofs.Common.{◌≡◌, [], true, vec_len}
use Rattle.kk_emitter.specs.Emissions.{counted_of}
use Rattle.counted_tests.proofs.losing.lose_all.Given as goal

abbrev pub invariant-loop-owed : goal.invariant-loop-owed
invariant-loop-owed l = (counted_of l.emitter).failed ≡ true

abbrev pub decreases-loop-owed : goal.decreases-loop-owed
decreases-loop-owed l = vec_len l.debts.variables

abbrev pub invariant-loop-spare : goal.invariant-loop-spare
invariant-loop-spare l = ((counted_of l.emitter).failed ≡ true) × (l.debts.variables.items ≡ [])

abbrev pub decreases-loop-spare : goal.decreases-loop-spare
decreases-loop-spare l = vec_len l.debts.spare
