use Rattle.std.proofs.Common.{◌+◌, ap, ◌∙◌}
use Rattle.kk_emitter.specs.Drafts.{looked, duplicated}
use Rattle.kk_emitter.specs.Emissions.{counted_of}
use Rattle.counted_tests.proofs.FunctionMarks.{same_begun, ended_marked, second_marked}
use Rattle.counted_tests.proofs.lists.second_of_lent.Goals as goal

pub completed-requires-clause-marked : goal.completed-requires-clause-marked
completed-requires-clause-marked c =
    let begun = same_begun _ _ _ _ _ _ _ c.requires.positions c.requires.fields c.requires.marks c.in_ok-emitter.ensures.ok in
    let read = c.in_ok-field.ensures.ok ∙ ap (λ d. looked d 0 0 0) begun in
    let field = c.in_ok-field.ensures.variable ∙ ap (λ d. d.next + 1) begun in
    ended_marked (counted_of c.dup_lent.new.self) _ c.in_ok-second.second.variable 2
    (c.in_ok-second.ensures.ok ∙ (ap (λ x. duplicated (counted_of c.field.new.self) x) field ∙ ap (λ d. duplicated d 2) read))
    (c.in_ok-second.ensures.owed.1 ∙ field) (λ going. second_marked)
