use Rattle.std.proofs.Common.{◌≡◌, ◌++◌, replicate}
use Rattle.kk_layout.specs.States.{symbol_at}
use Rattle.kk_layout.proofs.state.insert.Given as goal

abbrev pub invariant-loop : goal.invariant-loop
invariant-loop l = l.laid.items ≡ l.fn.laid.items ++ replicate l.counter (symbol_at l.symbol l.span)
