use Rattle.std.proofs.Common.{sym, subst}
use Rattle.kk_match.specs.GraphGrowth.{IsBuilt, IsNumbered, IsOver}
use Rattle.kk_match.specs.Parts.{types_of}
use Rattle.kk_match.specs.Views.{state_tree, graph_tree}
use Rattle.kk_match.proofs.NodeDecisions.{no_states, over_more}
use Rattle.kk_match.proofs.deciding.graph.Goals as goal

pub number-requires : goal.number-requires
number-requires c =
    let types = types_of c.args.constructors.now in
    subst (IsBuilt types c.args.most) (sym c.new-graph.ensures) (no_states types c.args.most)

pub returns-in-None : goal.returns-in-None
returns-in-None c =
    let types = types_of c.args.constructors.now in
    let start = state_tree c.args.start in
    over_more types c.args.most start
    (subst (λ graph. IsOver types c.args.most graph start) c.new-graph.ensures
    (subst (IsNumbered types c.args.most (graph_tree c.new-graph.result) start start (graph_tree c.number.new.self)) c.in-None.is c.in_ok-number.ensures))
