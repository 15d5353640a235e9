use Rattle.std.proofs.Common.{drop}
use Rattle.rv_inline.specs.InLine.{AreFrom}
use Rattle.rv_inline.proofs.leaf.are_first.Given as goal

abbrev pub invariant-loop-index : goal.invariant-loop-index
invariant-loop-index l = AreFrom l.index (drop l.index l.values) → AreFrom 0 l.values
