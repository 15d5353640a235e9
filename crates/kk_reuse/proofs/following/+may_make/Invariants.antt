use Rattle.std.proofs.Common.{◌≡◌, ◌≤◌, length, map, drop}
use Rattle.kk_counted.specs.CountedForms.{arms_of, block_code, step_move}
use Rattle.kk_reuse.specs.Following.{arms_may_make}
use Rattle.kk_reuse.specs.PairedForms.{moves_may_make}
use Rattle.kk_reuse.proofs.following.+may_make.Given as goal

abbrev pub invariant-arms_may_make-loop-arm : goal.invariant-arms_may_make-loop-arm
invariant-arms_may_make-loop-arm l =
    arms_may_make l.behind (arms_of (map block_code (drop l.arm-index l.arms)))
    ≡ arms_may_make l.behind (arms_of (map block_code l.arms))

abbrev pub invariant-steps_may_make-back : goal.invariant-steps_may_make-back
invariant-steps_may_make-back l =
    (l.makes ≡ moves_may_make l.behind (map step_move (drop l.left l.steps))) × (l.left ≤ length l.steps)

abbrev pub decreases-steps_may_make-back : goal.decreases-steps_may_make-back
decreases-steps_may_make-back l = l.left
