use Rattle.std.proofs.Common.{◌+◌, ◌≤◌, drop, map}
use Rattle.kk_base.specs.Limits.{greatest_of}
use Rattle.kk_base.specs.declared.limit.LimitKind.TheVariants.{Parameters}
use Rattle.rv_isa.specs.PlacedCode.{placed_line_of, placed_lines_of}
use Rattle.rv_regs.specs.Relation.{leading, first_args, FewMoves, FunctionFewMoves}
use Rattle.rv_regs.proofs.modest.has_few_moves.Given as goal
use Rattle.rv_regs.specs.declared.modest.TheConstants.{MOST_COUNT}

abbrev pub invariant-loop-item : goal.invariant-loop-item
invariant-loop-item l = record {
  few : l.count ≤ MOST_COUNT;
  most : l.most ≤ greatest_of Parameters + 1;
  rest : l.count + leading (map placed_line_of (drop l.item-index l.item-items)) ≤ l.most + first_args (map placed_line_of (drop l.item-index l.item-items))
      → FewMoves (map placed_line_of (drop l.item-index l.item-items)) → FunctionFewMoves (placed_lines_of l.placed);
}
