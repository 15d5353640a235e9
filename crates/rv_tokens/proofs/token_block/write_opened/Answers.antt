use Rattle.std.proofs.Common.{map, inl, inr}
use Rattle.std.proofs.lemmas.Result.{on_ok_weaker}
use Rattle.kk_counted.specs.TokenedForms.{tokened_move}
use Rattle.rv_tokens.specs.TokenedWritten.{variables_known}
use Rattle.rv_tokens.specs.Written.{facts_of}
use Rattle.rv_tokens.proofs.TokenCodeGrowth.{step_opens, step_opens_unique, step_of_open, step_of_unique, step_wrote_before}
use Rattle.rv_tokens.proofs.token_block.write_opened.Goals as goal

pub returns-in-Open : goal.returns-in-Open
returns-in-Open c =
    let a = c.in-Open in
    let fields = c.deref.result.now in
    let used = c.deref-in-Open.result.now in
    elim c.in-Open.is [
      | inl opens ↦
          on_ok_weaker c.write_opening.result
          (λ wrote.
          let whole = step_wrote_before c.args.step.now
          (step_of_open c.args.step.now a.variable opens.0 a.fields a.used a.slot fields used opens.1 c.deref.ensures.value
          c.deref-in-Open.ensures.value)
          (step_opens (facts_of c.args.known.now) (variables_known c.args.known.now) a.variable opens.0 fields used a.slot
          c.filled_by-into.result (map tokened_move c.args.behind.now) c.filled_by-into.ensures wrote) in
          (λ x k fields_too used_too y is. whole, λ x k fields_too used_too y is. whole))
          c.write_opening.ensures
      | inr opens ↦
          on_ok_weaker c.write_opening.result
          (λ wrote.
          let whole = step_wrote_before c.args.step.now
          (step_of_unique c.args.step.now a.variable opens.0 a.fields a.used a.slot fields used opens.1 c.deref.ensures.value
          c.deref-in-Open.ensures.value)
          (step_opens_unique (facts_of c.args.known.now) (variables_known c.args.known.now) a.variable opens.0 fields used a.slot
          c.filled_by-into.result (map tokened_move c.args.behind.now) c.filled_by-into.ensures wrote) in
          (λ x k fields_too used_too y is. whole, λ x k fields_too used_too y is. whole))
          c.write_opening.ensures
    ]

pub returns-in_default : goal.returns-in_default
returns-in_default c = (
  λ x k fields used y is. absurd (c.in_default.not-Open x k fields used y is),
  λ x k fields used y is. absurd (c.in_default.not-IfUnique x k fields used y is),
)
