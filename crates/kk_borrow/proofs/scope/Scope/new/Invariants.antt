use Rattle.std.proofs.Common.{◌≡◌}
use Rattle.kk_borrow.specs.Demands.{parameters}
use Rattle.kk_borrow.proofs.scope.Scope.new.Given as goal

abbrev pub invariant-loop-parameter : goal.invariant-loop-parameter
invariant-loop-parameter l = l.bindings.items ≡ parameters l.parameter
