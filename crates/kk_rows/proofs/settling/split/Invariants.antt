use Rattle.std.proofs.Common.{◌≡◌, ◌++◌, map}
use Rattle.kk_syntax.specs.Programs.{program_tree}
use Rattle.kk_slots.specs.Problems.{problem_view, children}
use Rattle.kk_rows.proofs.settling.split.Given as goal

abbrev pub invariant-loop-constructor : goal.invariant-loop-constructor
invariant-loop-constructor l =
    map problem_view l.problems.items ++ children (program_tree l.program) l.of_type (problem_view l.problem) l.width l.constructor
    ≡ map problem_view l.initial.problems.items ++ children (program_tree l.program) l.of_type (problem_view l.problem) l.width l.end

abbrev pub decreases-loop-constructor : goal.decreases-loop-constructor
decreases-loop-constructor l = l.constructor
