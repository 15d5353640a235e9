use Rattle.std.proofs.Common.{◌≡◌, ◌++◌, map, drop}
use Rattle.kk_match.specs.Views.{part_of}
use Rattle.kk_match.proofs.deciding.line.Given as goal

abbrev pub invariant-loop-question : goal.invariant-loop-question
invariant-loop-question l = map (λ q. part_of q.now) l.left.items ++ map part_of (drop l.question-index l.questions) ≡ map part_of l.questions
