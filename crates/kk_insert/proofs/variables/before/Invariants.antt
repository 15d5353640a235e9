use Rattle.std.proofs.Common.{◌≡◌, ◌≤◌, length, drop}
use Rattle.kk_insert.specs.Insertion.{before}
use Rattle.kk_insert.proofs.variables.before.Given as goal

abbrev pub invariant-back : goal.invariant-back
invariant-back l = (l.found.items ≡ before (drop l.left l.variables) l.after) × (l.left ≤ length l.variables)

abbrev pub decreases-back : goal.decreases-back
decreases-back l = l.left
