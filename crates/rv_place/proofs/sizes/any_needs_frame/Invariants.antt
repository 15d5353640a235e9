use Rattle.std.proofs.Common.{◌≡◌, ◌||◌, map, drop}
use Rattle.std.specs.List.{list_any}
use Rattle.rv_isa.specs.PlacedCode.{placed_line_of}
use Rattle.rv_place.specs.Addresses.{needs_frame}
use Rattle.rv_place.proofs.sizes.any_needs_frame.Given as goal

abbrev pub invariant-loop-item : goal.invariant-loop-item
invariant-loop-item l =
    (l.needs || list_any needs_frame (map placed_line_of (drop l.item-index l.items))) ≡ list_any needs_frame (map placed_line_of l.items)
