use Rattle.std.proofs.Common.{refl, arith}
use Rattle.kk_unify.proofs.GraphSolution.{root_place, all_solved}
use Rattle.kk_unify.proofs.solve.walk_all.Goals as goal

pub visit-requires-clause-root : goal.visit-requires-clause-root
visit-requires-clause-root c =
    root_place c.args.rooted.now c.deref-root-items.result.now c.loop-root.root-index c.requires c.deref-root-items.ensures.value c.loop-root-test.true

pub returns : goal.returns
returns c =
    all_solved c.args.rooted.now c.deref-root-items.result.now c.loop-root.walk _ c.loop-root.root-index c.requires c.deref-root-items.ensures.value (omega arith) (omega arith) c.loop-root.invariant.0 c.loop-root.invariant.1 refl c.loop-root.invariant.2
