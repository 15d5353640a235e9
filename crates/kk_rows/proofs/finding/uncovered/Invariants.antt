use Rattle.std.proofs.Common.{[], ◌∷◌}
use Rattle.kk_syntax.specs.Programs.{program_tree}
use Rattle.kk_rows.specs.Covered.{row_outlines}
use Rattle.kk_slots.specs.Problems.{problem_view, IsFew}
use Rattle.kk_rows.proofs.SearchTermination.{left}
use Rattle.kk_rows.proofs.CoverSearches.{Going}
use Rattle.kk_rows.proofs.finding.uncovered.Given as goal

abbrev pub invariant-search : goal.invariant-search
invariant-search l = record {
  going : Going (program_tree l.program) (row_outlines l.rows) (problem_view l.problem);
  few : IsFew (problem_view l.problem);
}

abbrev pub decreases-search : goal.decreases-search
decreases-search l = left (program_tree l.program) (problem_view l.problem ∷ [])
