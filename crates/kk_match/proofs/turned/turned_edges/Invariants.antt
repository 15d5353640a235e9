use Rattle.std.proofs.Common.{◌≡◌, ◌++◌, map, drop}
use Rattle.kk_match.specs.Turned.{turn_edge}
use Rattle.kk_match.proofs.turned.turned_edges.Given as goal

abbrev pub invariant-loop-edge : goal.invariant-loop-edge
invariant-loop-edge l = l.found.items ++ map (turn_edge l.last) (drop l.edge-index l.edges) ≡ map (turn_edge l.last) l.edges
