use Rattle.std.proofs.Common.{◌≡◌, max, map, drop}
use Rattle.rv_isa.specs.PlacedCode.{placed_line_of}
use Rattle.rv_isa.specs.FrameSizes.{slots_of_lines}
use Rattle.rv_isa.proofs.frame.slots_of_items.Given as goal

abbrev pub invariant-loop-item : goal.invariant-loop-item
invariant-loop-item l = max l.slots (slots_of_lines (map placed_line_of (drop l.item-index l.items))) ≡ slots_of_lines (map placed_line_of l.items)
