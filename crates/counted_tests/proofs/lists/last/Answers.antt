use Rattle.std.proofs.Common.{false, [], ◌∷◌, sym, ap, ◌∙◌}
use Rattle.kk_emitter.specs.Drafts.{fields_given}
use Rattle.kk_emitter.specs.Emissions.{counted_of}
use Rattle.counted_tests.proofs.FunctionMarks.{same_begun, given_same, unpacked_same, only_taken, called_marked, last_marked}
use Rattle.counted_tests.proofs.lists.last.Goals as goal

pub finish_tail-requires-clause-marked : goal.finish_tail-requires-clause-marked
finish_tail-requires-clause-marked c =
    let begun = same_begun _ _ _ _ _ _ _ c.requires.positions c.requires.fields c.requires.marks c.in_ok-emitter.ensures.ok in
    let cell = given_same _ _ _ c.in_ok-cell.ensures.ok begun in
    let opened = unpacked_same false _ 0 2 _ _ _ c.in-Ok.ensures.ok cell c.in_ok-cell.ensures.owed.1 in
    let rest = only_taken _ c.in-Some.rest.variable 2 (sym (ap (λ d. fields_given d 0 2) cell) ∙ (sym c.in-Ok.ensures.given.0 ∙ c.in-Some.ensures.last)) in
    called_marked (counted_of c.freed_for_call.new.emitter) _ c.in_ok-arguments.arguments.items (2 ∷ []) (c.in_ok-arguments.ensures.ok ∙ opened)
    (c.in_ok-arguments.ensures.arguments ∙ ap (λ x. x ∷ []) rest) (λ going. last_marked)
