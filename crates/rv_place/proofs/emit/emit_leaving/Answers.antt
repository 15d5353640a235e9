use Rattle.std.proofs.Common.{Some, refl, ap, ◌∙◌, subst}
use Rattle.cell_runtime.proofs.ItemEquality.{same_lw}
use Rattle.rv_place.specs.Lines.{IsFromPointer}
use Rattle.rv_place.proofs.Emissions.{grew_so, grew_then}
use Rattle.rv_place.proofs.emit.emit_leaving.Goals as goal

pub returns : goal.returns
returns c =
    let back = c.from_pointer.result in
    let back_is = subst (λ above. IsFromPointer c.args.chart.now.jumps above back) c.way_offset.ensures c.from_pointer.ensures in
    grew_so refl (λ code at row. ((back, back_is, row.0 ∙ ap Some (same_lw refl refl refl)), row.1))
    (grew_then c.in_ok-emit.ensures c.in_ok-emit_raising.ensures)
