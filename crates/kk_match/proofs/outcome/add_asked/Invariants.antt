use Rattle.std.proofs.Common.{◌≡◌, map, drop}
use Rattle.kk_match.specs.Outcomes.{with_parts}
use Rattle.kk_match.specs.Parts.{types_of}
use Rattle.kk_match.specs.Views.{part_of}
use Rattle.kk_match.proofs.outcome.add_asked.Given as goal

abbrev pub invariant-loop-question : goal.invariant-loop-question
invariant-loop-question l =
    with_parts (types_of l.constructors) (part_of l.test) l.answers.items (map (λ q. part_of q.now) (drop l.question-index l.questions))
    ≡ with_parts (types_of l.constructors) (part_of l.test) l.fn.answers.items (map (λ q. part_of q.now) l.questions)
