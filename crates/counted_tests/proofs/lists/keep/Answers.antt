use Rattle.std.proofs.Common.{true, pos, [], ◌∷◌, sym, ap, ◌∙◌}
use Rattle.kk_syntax.specs.declared.program.Form.TheVariants.{Number, Construct}
use Rattle.kk_emitter.specs.Drafts.{fields_given}
use Rattle.kk_emitter.specs.Emissions.{counted_of}
use Rattle.counted_tests.proofs.FunctionMarks.{same_begun, given_same, unpacked_same, computed_same, only_taken, ended_marked, keep_marked}
use Rattle.counted_tests.proofs.lists.keep.Goals as goal

pub completed-requires-clause-marked : goal.completed-requires-clause-marked
completed-requires-clause-marked c =
    let begun = same_begun _ _ _ _ _ _ _ c.requires.positions c.requires.fields c.requires.marks c.in_ok-emitter.ensures.ok in
    let cell = given_same _ _ _ c.in_ok-cell.ensures.ok begun in
    let opened = unpacked_same true _ 0 2 _ _ _ c.in-Ok.ensures.ok cell c.in_ok-cell.ensures.owed.1 in
    let numbered = computed_same (Number (pos 9)) _ [] _ _ _ c.in-Ok-plain.ensures.ok opened c.new.ensures.items in
    let number = c.in-Ok-plain.ensures.owed.1 ∙ ap (λ d. d.next) opened in
    let second = only_taken _ c.in-Some.second.variable 2 (sym (ap (λ d. fields_given d 0 2) cell) ∙ (sym c.in-Ok.ensures.given.0 ∙ c.in-Some.ensures.last)) in
    let built = computed_same (Construct 0) _ (3 ∷ 2 ∷ []) _ _ _ c.in_ok-built.ensures.ok numbered
    (ap (λ x. x ∷ c.in-Some.second.variable ∷ []) number ∙ ap (λ x. 3 ∷ x ∷ []) second) in
    ended_marked (counted_of c.filled.new.emitter) _ c.in_ok-built.built.variable 4 built
    (c.in_ok-built.ensures.owed.1 ∙ ap (λ d. d.next) numbered) (λ going. keep_marked)
