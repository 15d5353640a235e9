use Rattle.std.proofs.Common.{drop}
use Rattle.rv_isa.specs.ValueBounds.{AreValuesBelow}
use Rattle.rv_inline.proofs.leaf.are_below.Given as goal

abbrev pub invariant-loop-value : goal.invariant-loop-value
invariant-loop-value l = AreValuesBelow l.most (drop l.value-index l.values) → AreValuesBelow l.most l.values
