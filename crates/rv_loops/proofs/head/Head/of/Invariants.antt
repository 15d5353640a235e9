use Rattle.std.proofs.Common.{◌≡◌, ◌≤◌, ◌++◌, length, map, drop}
use Rattle.rv_isa.specs.PlacedCode.{placed_line_of}
use Rattle.rv_loops.specs.Rotation.{AreStraight, most_before}
use Rattle.rv_loops.proofs.head.Head.of.Given as goal

abbrev pub invariant-loop-item : goal.invariant-loop-item
invariant-loop-item l = record {
  straight : AreStraight (map placed_line_of l.before.items);
  few : length l.before.items ≤ most_before;
  whole : map placed_line_of l.before.items ++ map placed_line_of (drop l.item-index l.code) ≡ map placed_line_of l.code;
}
