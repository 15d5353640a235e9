use Rattle.std.proofs.Common.{◌≡◌, map, drop}
use Rattle.kk_core.specs.Codes.{last_code, step_piece, arm_code, arms_of, plug}
use Rattle.kk_insert.specs.Insertion.{lent_in, lent_in_arms}
use Rattle.kk_insert.proofs.lending.+lent_block.Given as goal

abbrev pub invariant-lent_arms-loop-arm : goal.invariant-lent_arms-loop-arm
invariant-lent_arms-loop-arm l =
    lent_in_arms l.found.items (arms_of (map arm_code (drop l.arm-index l.arms)))
    ≡ lent_in_arms l.initial.found.items (arms_of (map arm_code l.arms))

abbrev pub invariant-lent_block-loop-step : goal.invariant-lent_block-loop-step
invariant-lent_block-loop-step l =
    lent_in l.found.items (plug (map step_piece (drop l.step-index l.step-items)) (last_code l.block.last))
    ≡ lent_in l.initial.found.items (plug (map step_piece l.step-items) (last_code l.block.last))
