use Rattle.std.proofs.Common.{◌≡◌, ◌++◌, drop}
use Rattle.kk_counted.specs.Int32.{AreEdgesInt32}
use Rattle.kk_counted.proofs.copies.copied_edges.Given as goal

abbrev pub invariant-loop-edge : goal.invariant-loop-edge
invariant-loop-edge l = (l.copy.items ++ drop l.edge-index l.edges ≡ l.edges) × AreEdgesInt32 l.copy.items
