use Rattle.std.proofs.Common.{◌≤◌, ◌+◌, ◌++◌, List, drop, map}
use Rattle.rv_isa.specs.AsmCode.{Line, line_of, lines_of}
use Rattle.rv_isa.specs.Costs.{code_length}
use Rattle.rv_inline.specs.InLine.{AreInLine}
use Rattle.rv_inline.proofs.inlining.code_in_line.Given as goal

abbrev pub invariant-loop-statement : goal.invariant-loop-statement
invariant-loop-statement l = record {
  code : (more : List Line) → AreInLine (map lines_of l.functions) l.base (map line_of (drop l.statement-index l.code)) more
      → AreInLine (map lines_of l.functions) l.base (map line_of l.code) (map line_of l.new.items ++ more);
  short : code_length (map line_of l.new.items) + l.left + code_length (map line_of (drop l.statement-index l.code))
      ≤ code_length (map line_of l.code) + l.growth;
}
