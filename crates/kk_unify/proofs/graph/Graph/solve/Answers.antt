use Rattle.std.proofs.Common.{IfOk, MatchOption, List, subst}
use Rattle.kk_unify.specs.declared.node.Node.{Node}
use Rattle.kk_unify.specs.Graphs.{NoneObeys}
use Rattle.kk_unify.specs.NodesOf.{node_trees}
use Rattle.kk_unify.specs.Solutions.{Solves}
use Rattle.kk_unify.proofs.graph.Graph.solve.Goals as goal

pub returns : goal.returns
returns c =
    let P : List Node → Type 0 = λ nodes. IfOk c.solve.result (λ solution. MatchOption solution (NoneObeys (node_trees nodes)) (Solves c.args.self.now.variables (node_trees nodes))) in
    subst P c.deref.ensures.value c.solve.ensures
