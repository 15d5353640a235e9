use Rattle.std.proofs.Common.{◌≡◌, ◌++◌, drop}
use Rattle.kk_borrow.specs.Demands.{hung}
use Rattle.kk_borrow.proofs.scope.Scope.hang.Given as goal

abbrev pub invariant-loop-origin : goal.invariant-loop-origin
invariant-loop-origin l = l.self.bindings.items ++ hung l.variable (drop l.origin-index l.origins) ≡ l.fn.self.bindings.items ++ hung l.variable l.origins
