use Rattle.std.proofs.Common.{◌+◌, ◌*◌, ◌≤◌, drop, map, length}
use Rattle.kk_base.specs.Limits.{greatest_of}
use Rattle.kk_base.specs.declared.limit.LimitKind.TheVariants.{Parameters}
use Rattle.rv_isa.specs.AsmCode.{line_of, lines_of}
use Rattle.rv_isa.specs.Costs.{move_instructions, tail_call_length, code_length}
use Rattle.rv_regs.proofs.modest.least_length.Given as goal
use Rattle.rv_regs.specs.declared.modest.TheConstants.{MOST_SUM}

abbrev pub invariant-loop-statement : goal.invariant-loop-statement
invariant-loop-statement l = record {
  small : l.sum ≤ MOST_SUM + (2 * greatest_of Parameters + 1 + tail_call_length);
  rest : l.sum + code_length (map line_of (drop l.statement-index l.statement-items)) ≤ length l.function.params.items * move_instructions + code_length (lines_of l.function).code;
}
