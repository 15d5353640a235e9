use Rattle.std.proofs.Common.{◌≡◌, map, drop}
use Rattle.std.specs.Prelude.{max}
use Rattle.kk_emitter.specs.TokenDrafts.{most_left}
use Rattle.kk_emitter.specs.Works.{arm_of}
use Rattle.kk_emitter.proofs.joins.most_left.Given as goal

abbrev pub invariant-loop-arm : goal.invariant-loop-arm
invariant-loop-arm l = max l.most (most_left (map arm_of (drop l.arm-index l.arms))) ≡ most_left (map arm_of l.arms)
