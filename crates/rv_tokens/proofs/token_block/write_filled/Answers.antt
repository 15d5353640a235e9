use Rattle.std.proofs.Common.{◌∙◌}
use Rattle.std.proofs.lemmas.Result.{on_ok_weaker}
use Rattle.rv_tokens.specs.TokenedWritten.{variables_known}
use Rattle.rv_tokens.specs.Written.{facts_of}
use Rattle.rv_tokens.proofs.TokenCodeGrowth.{fill_is, step_fills, step_of_fill, step_wrote}
use Rattle.rv_tokens.proofs.token_block.write_filled.Goals as goal

pub returns-in_default : goal.returns-in_default
returns-in_default c = λ x y k first arguments kept others is. absurd (c.in_default.not-Fill x y k first arguments kept others is)

pub returns : goal.returns
returns c =
    on_ok_weaker c.write_fill.result
    (λ wrote.
    let whole = step_wrote c.args.step.now
    (step_of_fill c.args.step.now c.in-Fill.variable c.in-Fill.slot c.in-Fill.constructor c.in-Fill.first c.in-Fill.arguments
    c.in-Fill.kept c.in-Fill.others c.deref.result.now c.deref-3.result.now c.deref-4.result.now c.in-Fill.is c.deref.ensures.value
    c.deref-3.ensures.value c.deref-4.ensures.value)
    (step_fills (facts_of c.args.known.now) (variables_known c.args.known.now) c.in-Fill.variable c.in-Fill.slot
    c.in-Fill.constructor c.in-Fill.first c.deref.result.now c.deref-3.result.now c.deref-4.result.now
    (fill_is c.in_ok-token.ensures c.in_ok-header.ensures (c.deref-2.ensures.value ∙ c.in_ok-fields.ensures)
    c.has_header.ensures c.has_count.ensures wrote)) in
    λ x y k first arguments kept others is. whole)
    c.write_fill.ensures
