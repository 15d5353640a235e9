use Rattle.std.proofs.Common.{take}
use Rattle.kk_syntax.specs.Programs.{program_tree}
use Rattle.kk_syntax.specs.Covered.{Each}
use Rattle.kk_syntax.specs.Matches.{IsFunctionCovered}
use Rattle.kk_cover.proofs.covering.cover.Given as goal

abbrev pub invariant-loop-number : goal.invariant-loop-number
invariant-loop-number l = Each (IsFunctionCovered (program_tree l.typed.program)) (take l.number (program_tree l.typed.program).functions)
