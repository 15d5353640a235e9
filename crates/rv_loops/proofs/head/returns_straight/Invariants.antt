use Rattle.std.proofs.Common.{◌≡◌, map, drop}
use Rattle.rv_isa.specs.PlacedCode.{placed_line_of}
use Rattle.rv_loops.specs.Rotation.{returns_straight}
use Rattle.rv_loops.proofs.head.returns_straight.Given as goal

abbrev pub invariant-loop-item : goal.invariant-loop-item
invariant-loop-item l =
    returns_straight l.label (map placed_line_of (drop l.item-index l.code))
    ≡ returns_straight l.label (map placed_line_of l.code)
