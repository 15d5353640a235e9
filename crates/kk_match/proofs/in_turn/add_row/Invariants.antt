use Rattle.std.proofs.Common.{◌≡◌, map, vec_len}
use Rattle.kk_core.specs.Decisions.{node_tree}
use Rattle.kk_match.specs.InTurn.{with_parts, with_row}
use Rattle.kk_match.specs.Views.{part_of, line_tree}
use Rattle.kk_match.proofs.in_turn.add_row.Given as goal

abbrev pub invariant-loop-question : goal.invariant-loop-question
invariant-loop-question l =
    with_parts l.other (map (λ q. part_of q.now) l.left.items) (map node_tree l.nodes.items) ≡ with_row (line_tree l.fn.line) (map node_tree l.fn.nodes.items)

abbrev pub decreases-loop-question : goal.decreases-loop-question
decreases-loop-question l = vec_len l.left
