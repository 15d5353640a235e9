use Rattle.std.proofs.Common.{◌+◌, ◌*◌, Some, take}
use Rattle.kk_match.specs.Graphs.{weight}
use Rattle.kk_match.specs.GraphGrowth.{HasEdges}
use Rattle.kk_match.specs.Parts.{types_of}
use Rattle.kk_match.specs.Views.{part_of, state_tree, graph_tree}
use Rattle.kk_match.proofs.graph.Graph.+number.Given as goal

abbrev pub decreases-number : goal.decreases-number
decreases-number l = 5 * weight (state_tree l.state) + 4

abbrev pub decreases-node : goal.decreases-node
decreases-node l = 5 * weight (state_tree l.state.now) + 3

abbrev pub decreases-branch : goal.decreases-branch
decreases-branch l = 5 * weight (state_tree l.state.now) + 2

abbrev pub decreases-edges : goal.decreases-edges
decreases-edges l = 5 * weight (state_tree l.state.now) + 1

abbrev pub decreases-otherwise : goal.decreases-otherwise
decreases-otherwise l = 5 * weight (state_tree l.state.now) + 1

abbrev pub decreases-step : goal.decreases-step
decreases-step l = 5 * weight (state_tree l.state.now)

abbrev pub invariant-edges-loop-answer : goal.invariant-edges-loop-answer
invariant-edges-loop-answer l =
    HasEdges (types_of l.given.constructors.now) l.given.most (graph_tree l.fn.self) (state_tree l.state) (part_of l.test) (take l.answer-index l.answers) (graph_tree l.self) (Some l.edges.items)
