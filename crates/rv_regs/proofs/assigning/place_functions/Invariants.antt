use Rattle.std.proofs.Common.{◌++◌, List, drop, map}
use Rattle.rv_isa.specs.AsmCode.{lines_of}
use Rattle.rv_isa.specs.PlacedCode.{PlacedLines, placed_lines_of}
use Rattle.rv_isa.specs.WellFormed.{AreWellFormed}
use Rattle.rv_regs.specs.Shape.{AreRight}
use Rattle.rv_regs.proofs.assigning.place_functions.Given as goal

abbrev pub invariant-loop-function : goal.invariant-loop-function
invariant-loop-function l = record {
  formed : AreWellFormed (map lines_of (drop l.function-index l.functions));
  right : (more : List PlacedLines) → AreRight (map lines_of (drop l.function-index l.functions)) more → AreRight (map lines_of l.functions) (map placed_lines_of l.placed.items ++ more);
}
