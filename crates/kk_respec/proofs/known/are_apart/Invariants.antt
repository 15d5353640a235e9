use Rattle.std.proofs.Common.{◌≡◌, drop}
use Rattle.kk_counted.specs.KeptFields.{are_apart}
use Rattle.kk_respec.proofs.known.are_apart.Given as goal

abbrev pub invariant-loop-i : goal.invariant-loop-i
invariant-loop-i l = are_apart (drop l.i l.variables) ≡ are_apart l.variables
