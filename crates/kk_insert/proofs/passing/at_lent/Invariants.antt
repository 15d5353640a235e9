use Rattle.std.proofs.Common.{◌≡◌, ◌++◌, drop}
use Rattle.kk_syntax.specs.PositionsOf.{is_lent, positions_of}
use Rattle.kk_counted.specs.Spending.{at_positions}
use Rattle.kk_insert.proofs.passing.at_lent.Given as goal

abbrev pub invariant-loop-at : goal.invariant-loop-at
invariant-loop-at l =
    l.found.items ++ at_positions (is_lent (positions_of l.positions) l.function) l.at (drop l.at l.arguments)
    ≡ at_positions (is_lent (positions_of l.positions) l.function) 0 l.arguments
