use Rattle.std.proofs.Common.{◌≡◌, ◌++◌, map, drop}
use Rattle.kk_match.specs.Graphs.{after}
use Rattle.kk_match.specs.Views.{line_tree}
use Rattle.kk_match.proofs.state.State.after.Given as goal

abbrev pub invariant-loop-line : goal.invariant-loop-line
invariant-loop-line l =
    map line_tree l.lines.items ++ after l.at l.outcome (map line_tree (drop l.line-index l.self.lines.items))
    ≡ after l.at l.outcome (map line_tree l.self.lines.items)
