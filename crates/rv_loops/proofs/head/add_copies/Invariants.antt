use Rattle.std.proofs.Common.{◌≡◌, ◌++◌, map, drop}
use Rattle.rv_isa.specs.PlacedCode.{placed_line_of}
use Rattle.rv_loops.proofs.head.add_copies.Given as goal

abbrev pub invariant-loop-item : goal.invariant-loop-item
invariant-loop-item l =
    map placed_line_of l.code.items ++ map placed_line_of (drop l.item-index l.items)
    ≡ map placed_line_of l.initial.code.items ++ map placed_line_of l.items
