use Rattle.std.proofs.Common.{◌≡◌, ◌++◌, drop}
use Rattle.kk_respec.specs.Respecialised.{kept_from}
use Rattle.kk_respec.proofs.known.same_positions.Given as goal

abbrev pub invariant-loop-i : goal.invariant-loop-i
invariant-loop-i l =
    (l.kept.items ++ kept_from l.i (drop l.i l.fields) (drop l.i l.arguments) ≡ kept_from 0 l.fields l.arguments)
    × (l.position ≡ l.i)
