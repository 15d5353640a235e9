use Rattle.std.proofs.Common.{◌≡◌, take}
use Rattle.rv_cells.specs.TokenedLines.{values_of_slots}
use Rattle.rv_tokens.specs.TokenedWritten.{variables_known}
use Rattle.rv_tokens.proofs.known.Known.slots.Given as goal

abbrev pub invariant-loop-slot : goal.invariant-loop-slot
invariant-loop-slot l = l.values.items ≡ values_of_slots (variables_known l.self) (take l.slot-index l.slots)
