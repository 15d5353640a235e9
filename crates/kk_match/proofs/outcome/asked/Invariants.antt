use Rattle.std.proofs.Common.{◌≡◌, [], map, drop}
use Rattle.kk_match.specs.Outcomes.{with_lines}
use Rattle.kk_match.specs.Parts.{types_of}
use Rattle.kk_match.specs.Views.{part_of, line_tree}
use Rattle.kk_match.proofs.outcome.asked.Given as goal

abbrev pub invariant-loop-line : goal.invariant-loop-line
invariant-loop-line l =
    with_lines (types_of l.constructors) (part_of l.test) l.answers.items (map line_tree (drop l.line-index l.state.lines.items))
    ≡ with_lines (types_of l.constructors) (part_of l.test) [] (map line_tree l.state.lines.items)
