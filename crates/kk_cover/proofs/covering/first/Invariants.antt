use Rattle.std.proofs.Common.{take}
use Rattle.kk_syntax.specs.Programs.{program_tree}
use Rattle.kk_syntax.specs.Covered.{Each}
use Rattle.kk_syntax.specs.Matches.{IsMatchCovered}
use Rattle.kk_cover.specs.Matches.{match_rows}
use Rattle.kk_cover.proofs.covering.first.Given as goal

abbrev pub invariant-loop-rows : goal.invariant-loop-rows
invariant-loop-rows l = Each (IsMatchCovered (program_tree l.program)) (match_rows (take l.rows-index l.rows-items))
