use Rattle.std.proofs.Common.{◌≤◌, drop, map}
use Rattle.rv_isa.specs.PlacedCode.{placed_line_of}
use Rattle.rv_isa.specs.Costs.{placed_code_length}
use Rattle.rv_regs.proofs.modest.is_short.Given as goal

abbrev pub invariant-loop-item : goal.invariant-loop-item
invariant-loop-item l =
    placed_code_length (map placed_line_of (drop l.item-index l.code)) ≤ l.left → placed_code_length (map placed_line_of l.code) ≤ l.most
