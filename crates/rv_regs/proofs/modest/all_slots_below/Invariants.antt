use Rattle.std.proofs.Common.{drop, map}
use Rattle.rv_isa.specs.PlacedCode.{placed_line_of}
use Rattle.rv_regs.specs.Shape.{AllSlotsBelow}
use Rattle.rv_regs.proofs.modest.all_slots_below.Given as goal

abbrev pub invariant-loop-item : goal.invariant-loop-item
invariant-loop-item l = AllSlotsBelow l.most (map placed_line_of (drop l.item-index l.code)) → AllSlotsBelow l.most (map placed_line_of l.code)
