use Rattle.std.proofs.Common.{◌≡◌, map, take}
use Rattle.kk_counted.specs.CountedForms.{arms_of, block_code, step_move}
use Rattle.kk_counted.specs.Int32.{HaveInt32}
use Rattle.kk_dropspec.specs.Numbers.{AreMovesInt32}
use Rattle.kk_dropspec.specs.Specialised.{special}
use Rattle.kk_dropspec.specs.SpecialForms.{special_move}
use Rattle.kk_dropspec.proofs.special.+special_block.Given as goal

abbrev pub invariant-special_steps-loop-step : goal.invariant-special_steps-loop-step
invariant-special_steps-loop-step l =
    (map step_move l.made.items ≡ map special_move (map step_move (take l.step-index l.steps)))
    × AreMovesInt32 (map step_move l.made.items)

abbrev pub invariant-special_arms-loop-arm : goal.invariant-special_arms-loop-arm
invariant-special_arms-loop-arm l =
    (map block_code l.made.items ≡ map special (map block_code (take l.arm-index l.arms)))
    × HaveInt32 (arms_of (map block_code l.made.items))
