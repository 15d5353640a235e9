use Rattle.std.proofs.Common.{◌≡◌}
use Rattle.kk_counted.specs.Spending.{numbers_from}
use Rattle.kk_insert.proofs.function.numbers.Given as goal

abbrev pub invariant-loop-number : goal.invariant-loop-number
invariant-loop-number l = l.found.items ≡ numbers_from 0 l.number
