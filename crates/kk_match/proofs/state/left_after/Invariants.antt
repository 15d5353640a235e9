use Rattle.std.proofs.Common.{◌≡◌, ◌++◌, map, drop, option_map}
use Rattle.kk_match.specs.Graphs.{left_after}
use Rattle.kk_match.specs.Views.{part_of}
use Rattle.kk_match.proofs.state.left_after.Given as goal

abbrev pub invariant-loop-question : goal.invariant-loop-question
invariant-loop-question l =
    left_after l.at l.outcome (map (λ q. part_of q.now) l.questions)
    ≡ option_map (λ rest. map (λ q. part_of q.now) l.left.items ++ rest) (left_after l.at l.outcome (map (λ q. part_of q.now) (drop l.question-index l.questions)))
