use Rattle.std.proofs.Common.{◌≡◌, ◌++◌}
use Rattle.kk_reuse.specs.Pairing.{slots_below}
use Rattle.kk_reuse.proofs.slots.slots_below.Given as goal

abbrev pub invariant-down : goal.invariant-down
invariant-down l = l.slots.items ++ slots_below l.left ≡ slots_below l.tokens

abbrev pub decreases-down : goal.decreases-down
decreases-down l = l.left
