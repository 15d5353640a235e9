use Rattle.std.proofs.Common.{map}
use Rattle.kk_syntax.specs.Programs.{program_tree}
use Rattle.kk_syntax.specs.Covered.{Each}
use Rattle.kk_slots.specs.Problems.{problem_view, IsFew}
use Rattle.kk_rows.proofs.SearchTermination.{left}
use Rattle.kk_rows.proofs.CoverSearches.{Decided}
use Rattle.kk_rows.proofs.turning.is_covered.Given as goal

abbrev pub invariant-search : goal.invariant-search
invariant-search l = record {
  decided : Decided (program_tree l.program) (problem_view l.problem) (map problem_view l.problems.items);
  few : Each IsFew (map problem_view l.problems.items);
}

abbrev pub decreases-search : goal.decreases-search
decreases-search l = left (program_tree l.program) (map problem_view l.problems.items)
