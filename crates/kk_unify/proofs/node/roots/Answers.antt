use Rattle.std.proofs.Common.{◌≡◌, ◌<◌, ◌+◌, ℕ, List, sym, subst, length, arith}
use Rattle.kk_unify.specs.NodesOf.{node_trees}
use Rattle.kk_unify.proofs.NodeRoots.{RootsSoFar, same_within, more_same, more_own}
use Rattle.kk_unify.proofs.node.roots.Goals as goal
use Rattle.kk_unify.proofs.node.roots.Goals.{in-Same, in_default}

pub index-requires : goal.index-requires
index-requires c =
    let within : c.in-Same.to < length c.loop-number.roots.items = same_within c.requires.linked.0 c.args.nodes.now c.loop-number.roots.items c.loop-number.number c.index-nodes-number.result c.requires.linked.1 (omega arith) c.index-nodes-number.is c.loop-number.invariant c.in-Same.to c.in-Same.is in
    omega arith

pub loop-number-preserved : goal.loop-number-preserved
loop-number-preserved c =
    let P : List ℕ → Type 0 = λ roots. (length roots ≡ c.loop-number.number + 1) × RootsSoFar (node_trees c.args.nodes.now) roots in
    subst P (sym c.in_ok-push.ensures.items) (elim c.match-node.branch [
      | in-Same w ↦ more_same c.requires.linked.0 c.args.nodes.now c.loop-number.roots.items c.loop-number.number c.index-nodes-number.result c.requires.linked.1 (omega arith) c.index-nodes-number.is c.loop-number.invariant w.in-Same.to c.match-node.root w.index.result.now w.in-Same.is w.root-is w.index.ensures
      | in_default w ↦ more_own c.requires.linked.0 c.args.nodes.now c.loop-number.roots.items c.loop-number.number c.index-nodes-number.result c.requires.linked.1 (omega arith) c.index-nodes-number.is c.loop-number.invariant c.match-node.root w.in_default.not-Same w.root-is
    ])
