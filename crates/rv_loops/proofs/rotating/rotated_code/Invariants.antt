use Rattle.std.proofs.Common.{◌≡◌, ◌++◌, map, drop}
use Rattle.rv_isa.specs.PlacedCode.{placed_line_of}
use Rattle.rv_loops.specs.Rotation.{rotated_lines, rotated_code}
use Rattle.rv_loops.specs.Heads.{loop_of}
use Rattle.rv_loops.proofs.rotating.rotated_code.Given as goal

abbrev pub invariant-loop-item : goal.invariant-loop-item
invariant-loop-item l =
    map placed_line_of l.new.items ++ rotated_lines (loop_of l.head (map placed_line_of l.behind)) (map placed_line_of
    (drop l.item-index l.behind))
    ≡ rotated_code (loop_of l.head (map placed_line_of l.behind))
