use Rattle.std.proofs.Common.{◌≡◌, max, drop}
use Rattle.rv_isa.specs.FrameSizes.{slots_of_operands}
use Rattle.rv_isa.proofs.frame.slots_of_operands.Given as goal

abbrev pub invariant-loop-operand : goal.invariant-loop-operand
invariant-loop-operand l = max l.slots (slots_of_operands (drop l.operand-index l.operands)) ≡ slots_of_operands l.operands
