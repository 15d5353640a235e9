use Rattle.std.proofs.Common.{◌≡◌, ◌≤◌, ◌++◌, length, take, drop, option_map}
use Rattle.kk_fuse.specs.FusedForms.{backwards, moves_without}
use Rattle.kk_fuse.proofs.fuse.next_drop.Given as goal

abbrev pub invariant-back : goal.invariant-back
invariant-back l =
    (moves_without l.variable (backwards l.made)
    ≡ option_map (λ less. backwards (drop l.left l.made) ++ less) (moves_without l.variable (backwards (take l.left l.made))))
    × (l.left ≤ length l.made)

abbrev pub decreases-back : goal.decreases-back
decreases-back l = l.left
