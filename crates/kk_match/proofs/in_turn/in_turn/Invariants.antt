use Rattle.std.proofs.Common.{◌≡◌, [], map, vec_len}
use Rattle.kk_core.specs.Decisions.{node_tree}
use Rattle.kk_match.specs.InTurn.{with_rows}
use Rattle.kk_match.specs.Views.{line_tree, state_tree}
use Rattle.kk_match.proofs.in_turn.in_turn.Given as goal

abbrev pub invariant-loop-line : goal.invariant-loop-line
invariant-loop-line l = with_rows (map line_tree l.lines.items) (map node_tree l.nodes.items) ≡ with_rows (state_tree l.fn.state) []

abbrev pub decreases-loop-line : goal.decreases-loop-line
decreases-loop-line l = vec_len l.lines
