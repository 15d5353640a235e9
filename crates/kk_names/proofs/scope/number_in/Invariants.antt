use Rattle.std.proofs.Common.{◌≡◌, take}
use Rattle.kk_names.specs.Methods.{newest_first}
use Rattle.kk_names.specs.Scopes.{number_in}
use Rattle.kk_names.proofs.scope.number_in.Given as goal

abbrev pub invariant-loop-bound : goal.invariant-loop-bound
invariant-loop-bound l = l.number ≡ number_in (newest_first (take l.bound-index l.scope)) l.name
