use Rattle.std.proofs.Common.{Some, refl, ap, ◌∙◌, subst, arith}
use Rattle.cell_runtime.proofs.ItemEquality.{same_sw}
use Rattle.rv_place.specs.Lines.{IsFromPointer}
use Rattle.rv_place.proofs.Emissions.{grew_so, grew_then}
use Rattle.rv_place.proofs.emit.emit_taking.Goals as goal

pub returns : goal.returns
returns c =
    let back = c.from_pointer.result in
    let back_is = subst (λ above. IsFromPointer c.args.jumps above back) c.way_offset.ensures c.from_pointer.ensures in
    grew_so (omega arith) (λ code at row. (row.0, (back, back_is, row.1 ∙ ap Some (same_sw refl refl refl))))
    (grew_then c.in_ok-emit_lowering.ensures c.in_ok-emit.ensures)
