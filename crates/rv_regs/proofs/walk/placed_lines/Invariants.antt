use Rattle.std.proofs.Common.{◌≤◌, length, drop, map}
use Rattle.rv_isa.specs.AsmCode.{line_of}
use Rattle.rv_regs.specs.Walks.{HasComeTo}
use Rattle.rv_regs.proofs.walk.placed_lines.Given as goal

abbrev pub invariant-loop-left : goal.invariant-loop-left
invariant-loop-left l = record {
  within : l.left ≤ length l.code;
  come : HasComeTo l.walk (map line_of (drop l.left l.code));
}

abbrev pub decreases-loop-left : goal.decreases-loop-left
decreases-loop-left l = l.left
