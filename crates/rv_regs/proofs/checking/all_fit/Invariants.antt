use Rattle.std.proofs.Common.{◌↔◌, drop, map}
use Rattle.rv_isa.specs.PlacedCode.{placed_line_of}
use Rattle.rv_regs.specs.Conditions.{AllFit}
use Rattle.rv_regs.proofs.checking.all_fit.Given as goal

abbrev pub invariant-loop-index : goal.invariant-loop-index
invariant-loop-index l =
    AllFit (map placed_line_of l.code) (map placed_line_of (drop l.index l.code)) ↔ AllFit (map placed_line_of l.code) (map placed_line_of l.code)
