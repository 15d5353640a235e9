use Rattle.std.proofs.Common.{◌≡◌, ◌↔◌, ◌≤◌, drop, map, length}
use Rattle.rv_isa.specs.AsmCode.{line_of}
use Rattle.rv_isa.specs.PlacedCode.{placed_line_of}
use Rattle.rv_regs.specs.Conditions.{without_moves}
use Rattle.rv_regs.proofs.checking.is_code.Given as goal

abbrev pub invariant-loop-item : goal.invariant-loop-item
invariant-loop-item l = record {
  in_range : l.at ≤ length l.statements;
  same : (without_moves (map placed_line_of (drop l.item-index l.code)) ≡ map line_of (drop l.at l.statements)) ↔ (without_moves (map placed_line_of l.code) ≡ map line_of l.statements);
}
