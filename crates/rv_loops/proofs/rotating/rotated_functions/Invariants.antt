use Rattle.std.proofs.Common.{◌++◌, List, map, drop}
use Rattle.rv_isa.specs.PlacedCode.{PlacedLines, placed_lines_of}
use Rattle.rv_loops.specs.Rotation.{AreRotated}
use Rattle.rv_loops.proofs.rotating.rotated_functions.Given as goal

abbrev pub invariant-loop-number : goal.invariant-loop-number
invariant-loop-number l =
    (more : List PlacedLines) → AreRotated l.number (map placed_lines_of (drop l.number l.functions)) more
    → AreRotated 0 (map placed_lines_of l.functions) (map placed_lines_of l.new.items ++ more)
