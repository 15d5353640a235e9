use Rattle.std.proofs.Common.{ap, ◌∙◌}
use Rattle.kk_emitter.specs.Drafts.{given, ended_by_value}
use Rattle.kk_emitter.specs.Emissions.{counted_of}
use Rattle.counted_tests.specs.TwoRows.{behind_first}
use Rattle.counted_tests.proofs.FunctionMarks.{same_begun, spine_ends}
use Rattle.counted_tests.proofs.rows.spine.Goals as goal

pub finished-requires-clause-marked : goal.finished-requires-clause-marked
finished-requires-clause-marked c =
    let begun = same_begun _ _ _ _ _ _ _ c.requires.positions c.requires.fields c.requires.marks c.in_ok-emitter.ensures.ok in
    spine_ends (counted_of c.given_first.new.emitter) (counted_of c.with_spine.new.emitter) (counted_of c.ended.new.emitter)
    (c.in_ok-cell.ensures.ok ∙ ap (λ d. behind_first (given d 0) 0 0) begun) c.in-Ok.ensures.ok c.in-Ok.ensures.steps
    (c.in_ok-arms.ensures.ok ∙ ap (λ x. ended_by_value (counted_of c.with_spine.new.emitter) x) c.in-Ok.ensures.value.1)
