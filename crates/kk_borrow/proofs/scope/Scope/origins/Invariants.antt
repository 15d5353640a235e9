use Rattle.std.proofs.Common.{◌≡◌, ◌++◌, drop}
use Rattle.kk_borrow.specs.Demands.{origins_of}
use Rattle.kk_borrow.proofs.scope.Scope.origins.Given as goal

abbrev pub invariant-loop-binding : goal.invariant-loop-binding
invariant-loop-binding l = l.origins.items ++ origins_of (drop l.binding-index l.self.bindings.items) l.variable ≡ origins_of l.self.bindings.items l.variable
