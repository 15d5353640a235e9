use Rattle.std.proofs.Common.{◌≡◌, map, drop}
use Rattle.std.specs.Prelude.{max}
use Rattle.kk_emitter.specs.TokenDrafts.{above_all}
use Rattle.kk_emitter.specs.Works.{arm_of}
use Rattle.kk_emitter.proofs.joins.above_all.Given as goal

abbrev pub invariant-loop-arm : goal.invariant-loop-arm
invariant-loop-arm l = max l.above (above_all (map arm_of (drop l.arm-index l.arms))) ≡ above_all (map arm_of l.arms)
