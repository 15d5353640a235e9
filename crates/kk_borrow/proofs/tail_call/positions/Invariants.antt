use Rattle.std.proofs.Common.{◌≡◌, ◌++◌, map, drop}
use Rattle.kk_borrow.specs.Demands.{position}
use Rattle.kk_borrow.proofs.tail_call.positions.Given as goal

abbrev pub invariant-loop-parameter : goal.invariant-loop-parameter
invariant-loop-parameter l = l.found.items ++ map (position l.function) (drop l.parameter-index l.parameters) ≡ map (position l.function) l.parameters
