use Rattle.std.proofs.Common.{◌≤◌, ◌+◌, ◌++◌, List, drop, map}
use Rattle.rv_isa.specs.AsmCode.{Lines, lines_of}
use Rattle.rv_isa.specs.Costs.{functions_length}
use Rattle.rv_inline.specs.Growth.{most_growth}
use Rattle.rv_inline.specs.InLine.{HaveInLine}
use Rattle.rv_inline.proofs.inlining.functions_in_line.Given as goal

abbrev pub invariant-loop-function : goal.invariant-loop-function
invariant-loop-function l = record {
  functions : (more : List Lines) → HaveInLine (map lines_of l.functions) (map lines_of (drop l.function-index l.functions)) more
      → HaveInLine (map lines_of l.functions) (map lines_of l.functions) (map lines_of l.new.items ++ more);
  short : functions_length (map lines_of l.new.items) + l.growth + functions_length (map lines_of (drop l.function-index l.functions))
      ≤ functions_length (map lines_of l.functions) + most_growth;
}
