use Rattle.std.proofs.Common.{◌≡◌, ◌++◌, map, drop}
use Rattle.kk_counted.specs.CountedForms.{block_code, last_code, step_move}
use Rattle.kk_counted.specs.TokenedForms.{tokened_code}
use Rattle.kk_reuse.specs.PairedForms.{paired_block}
use Rattle.kk_reuse.proofs.WrittenSteps.{IsLeft}
use Rattle.kk_reuse.proofs.pairing.+paired_block.Given as goal

abbrev pub invariant-paired_block-loop-i : goal.invariant-paired_block-loop-i
invariant-paired_block-loop-i l =
    IsLeft l.behind.makes l.already l.behind.left l.tokens (map step_move (drop l.i l.block.steps.items)) (last_code l.block.last)
    l.steps.items (paired_block l.behind.makes l.behind.left l.fn.tokens (block_code l.block))

abbrev pub invariant-paired_arms-loop-arm : goal.invariant-paired_arms-loop-arm
invariant-paired_arms-loop-arm l =
    map tokened_code l.made.items
    ++ map (paired_block l.behind.makes l.behind.left l.tokens) (map block_code (drop l.arm-index l.arms))
    ≡ map (paired_block l.behind.makes l.behind.left l.tokens) (map block_code l.arms)
