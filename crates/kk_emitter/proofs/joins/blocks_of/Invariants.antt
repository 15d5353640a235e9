use Rattle.std.proofs.Common.{◌≡◌, ◌++◌, map, reverse, vec_len}
use Rattle.kk_counted.specs.TokenedForms.{tokened_code}
use Rattle.kk_emitter.specs.TokenDrafts.{renamed}
use Rattle.kk_emitter.specs.Works.{arm_of}
use Rattle.kk_emitter.proofs.joins.blocks_of.Given as goal

abbrev pub invariant-loop-arm : goal.invariant-loop-arm
invariant-loop-arm l =
    map (renamed l.slots) (map arm_of l.left.items) ++ map tokened_code (reverse l.blocks.items)
    ≡ map (renamed l.slots) (map arm_of l.fn.arms.items)

abbrev pub decreases-loop-arm : goal.decreases-loop-arm
decreases-loop-arm l = vec_len l.left
