use Rattle.std.proofs.Common.{◌≡◌, []}
use Rattle.kk_unify.specs.WalkOf.{Stands}
use Rattle.kk_unify.proofs.GraphSolution.{NumbersSoFar}
use Rattle.kk_unify.proofs.solve.walk_all.Given as goal

abbrev pub invariant-loop-root : goal.invariant-loop-root
invariant-loop-root l = Stands l.rooted l.walk [] × (l.walk.frames.items ≡ []) × NumbersSoFar l.rooted l.walk l.numbers.items l.root-index
