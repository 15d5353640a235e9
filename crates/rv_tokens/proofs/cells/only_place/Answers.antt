use Rattle.std.proofs.Common.{sym, ◌∙◌, ap, ◌+◌}
use Rattle.std.proofs.lemmas.List.{take_rest}
use Rattle.kk_syntax.specs.Shapes.{is_among}
use Rattle.rv_tokens.proofs.WrittenReadings.{stands_once}
use Rattle.rv_tokens.proofs.cells.only_place.Goals as goal

pub returns : goal.returns
returns c = stands_once c.args.fields.now c.args.field c.in_ok-place.place (sym c.in_ok-place.ensures)
    (ap (λ rest. is_among rest c.args.field) (sym (take_rest c.args.fields.now (c.in_ok-place.place + 1)))
    ∙ sym c.contains.ensures.value ∙ c.if-contains.false)
