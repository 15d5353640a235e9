use Rattle.std.proofs.Common.{◌≡◌, ◌++◌, List, map, true, vec_len}
use Rattle.kk_syntax.specs.Programs.{program_tree}
use Rattle.kk_syntax.specs.Covered.{Each}
use Rattle.kk_slots.specs.Problems.{OpenProblem, problem_view, IsFew}
use Rattle.kk_slots.specs.Turned.{Tells}
use Rattle.kk_rows.proofs.turning.last_open.Given as goal

abbrev pub invariant-loop-problem : goal.invariant-loop-problem
invariant-loop-problem l = record {
  closed : List OpenProblem;
  place : map problem_view l.fn.problems.items ≡ map problem_view l.left.items ++ closed;
  tells : Each (λ p. Tells (program_tree l.program) p true) closed;
  few : Each IsFew (map problem_view l.left.items);
}

abbrev pub decreases-loop-problem : goal.decreases-loop-problem
decreases-loop-problem l = vec_len l.left
