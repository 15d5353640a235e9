use Rattle.std.proofs.Common.{◌≡◌, ◌++◌, map, drop}
use Rattle.kk_match.specs.Graphs.{lines_of}
use Rattle.kk_match.specs.Views.{part_of, line_tree}
use Rattle.kk_match.proofs.deciding.start.Given as goal

abbrev pub invariant-loop-row : goal.invariant-loop-row
invariant-loop-row l =
    map line_tree l.lines.items ++ lines_of l.row (map (λ qs. map part_of qs.items) (drop l.row l.questions)) ≡ lines_of 0 (map (λ qs. map part_of qs.items) l.questions)
