use Rattle.std.proofs.Common.{◌≡◌, ◌≤◌, length, drop}
use Rattle.kk_insert.specs.Insertion.{before, extra}
use Rattle.kk_insert.proofs.variables.extra.Given as goal

abbrev pub invariant-back : goal.invariant-back
invariant-back l =
    (l.later.items ≡ before (drop l.left l.variables) l.after)
    × ((l.found.items ≡ extra (drop l.left l.variables) l.after) × (l.left ≤ length l.variables))

abbrev pub decreases-back : goal.decreases-back
decreases-back l = l.left
