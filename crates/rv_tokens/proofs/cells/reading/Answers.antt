use Rattle.std.proofs.Common.{arith, [], ◌∷◌, ◌++◌, ap, ◌∙◌}
use Rattle.rv_tokens.proofs.WrittenReadings.{place_there, moved_last}
use Rattle.rv_tokens.proofs.cells.reading.Goals as goal

pub remove-line-requires : goal.remove-line-requires
remove-line-requires c =
    let there = place_there c.args.cell c.args.fields.now c.in-Some.field c.in-Some-only_place.place c.in_ok-lines.lines.items c.in-Some-only_place.ensures
    c.in_ok-lines.ensures in
    omega (arith, there, c.in_ok-lines.lines.ok.0)

pub returns : goal.returns
returns c =
    moved_last c.args.cell c.args.fields.now c.in-Some.field c.in-Some-only_place.place c.in_ok-lines.lines.items c.remove-line.result c.push.new.self.items
    c.in-Some-only_place.ensures c.in_ok-lines.ensures c.remove-line.ensures.value
    (c.in_ok-push.ensures.items ∙ ap (λ ls. ls ++ (c.remove-line.result ∷ [])) c.remove-line.ensures.items)
