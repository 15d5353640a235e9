use Rattle.std.proofs.Common.{◌≡◌, ◌≤◌, length, map, take, drop}
use Rattle.kk_counted.specs.CountedForms.{arms_of, block_code, step_move}
use Rattle.kk_counted.specs.Int32.{HaveInt32}
use Rattle.kk_dropspec.specs.Numbers.{AreMovesInt32}
use Rattle.kk_fuse.specs.Fused.{fuse}
use Rattle.kk_fuse.specs.FusedForms.{backwards, fused_moves}
use Rattle.kk_fuse.proofs.fuse.+fused_block.Given as goal

abbrev pub invariant-fused_arms-loop-arm : goal.invariant-fused_arms-loop-arm
invariant-fused_arms-loop-arm l =
    (map block_code l.made.items ≡ map fuse (map block_code (take l.arm-index l.arms)))
    × HaveInt32 (arms_of (map block_code l.made.items))

abbrev pub invariant-fused_steps-back : goal.invariant-fused_steps-back
invariant-fused_steps-back l =
    (backwards l.made.items ≡ fused_moves (map step_move (drop l.left l.steps)))
    × (AreMovesInt32 (backwards l.made.items) × (l.left ≤ length l.steps))

abbrev pub decreases-fused_steps-back : goal.decreases-fused_steps-back
decreases-fused_steps-back l = l.left
