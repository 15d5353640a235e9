use Rattle.std.proofs.Common.{◌↔◌, drop, map}
use Rattle.rv_isa.specs.AsmCode.{lines_of}
use Rattle.rv_isa.specs.PlacedCode.{placed_lines_of}
use Rattle.rv_regs.specs.Conditions.{ArePlacings}
use Rattle.rv_regs.proofs.checking.are_placings.Given as goal

abbrev pub invariant-loop-index : goal.invariant-loop-index
invariant-loop-index l =
    ArePlacings (map lines_of (drop l.index l.functions)) (map placed_lines_of (drop l.index l.placed)) ↔ ArePlacings (map lines_of l.functions) (map placed_lines_of l.placed)
