use Rattle.std.proofs.Common.{◌≡◌, ◌++◌, drop}
use Rattle.std.specs.Prelude.{filter}
use Rattle.rv_cells.specs.CountedLines.{is_plain}
use Rattle.rv_tokens.specs.Written.{layout_known}
use Rattle.rv_tokens.proofs.decide.plain_edges.Given as goal

abbrev pub invariant-loop-edge : goal.invariant-loop-edge
invariant-loop-edge l =
    l.plain.items ++ filter (λ edge. is_plain (layout_known l.known) edge.found) (drop l.edge-index l.edges) ≡ filter
    (λ edge. is_plain (layout_known l.known) edge.found) l.edges
