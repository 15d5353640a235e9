use Rattle.std.proofs.Common.{◌≡◌, ◌-◌, ◌++◌, length}
use Rattle.kk_counted.specs.Spending.{at_positions, numbers_from}
use Rattle.kk_emitter.specs.Works.{passes}
use Rattle.kk_emitter.proofs.lists.parameters_passed.Given as goal

abbrev pub invariant-loop-at : goal.invariant-loop-at
invariant-loop-at l =
    l.found.items ++ at_positions (passes l.parameters l.lent) l.at (numbers_from l.at (length l.parameters - l.at))
    ≡ at_positions (passes l.parameters l.lent) 0 (numbers_from 0 (length l.parameters))
