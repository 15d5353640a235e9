use Rattle.std.proofs.Common.{◌≡◌, true, map, drop}
use Rattle.std.specs.Prelude.{max}
use Rattle.kk_counted.specs.CountedForms.{arms_of, block_code, last_code, plug, step_move}
use Rattle.kk_reuse.specs.Following.{leaves, arms_leave}
use Rattle.kk_reuse.proofs.following.+leaves.Given as goal

abbrev pub invariant-arms_leave-loop-arm : goal.invariant-arms_leave-loop-arm
invariant-arms_leave-loop-arm l =
    max l.most (arms_leave true l.tokens (arms_of (map block_code (drop l.arm-index l.arms))))
    ≡ arms_leave true l.tokens (arms_of (map block_code l.arms))

abbrev pub invariant-leaves-loop-step : goal.invariant-leaves-loop-step
invariant-leaves-loop-step l =
    leaves true l.left (plug (map step_move (drop l.step-index l.step-items)) (last_code l.block.last))
    ≡ leaves true l.tokens (plug (map step_move l.step-items) (last_code l.block.last))
