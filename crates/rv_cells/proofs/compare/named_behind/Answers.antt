use Rattle.std.proofs.Common.{sym, ◌∙◌}
use Rattle.rv_cells.proofs.UnnamedVariables.{first_behind}
use Rattle.rv_cells.proofs.compare.named_behind.Goals as goal

pub returns-else-steps_name : goal.returns-else-steps_name
returns-else-steps_name c = λ none.
    first_behind c.args.block.now c.args.variable c.deref.result.now c.in-Some-Drop-default.field-0-0.now
    c.in-Some-Drop-default.field-0-0-0 c.in-Some-Drop-default.steps.now c.deref.ensures.value c.in-Some-Drop-default.ensures.cases.0
    c.in-Some-Drop-default.field-0-0-is (sym c.steps_name.ensures ∙ c.if-steps_name.false) (sym c.last_names.ensures ∙ none)
