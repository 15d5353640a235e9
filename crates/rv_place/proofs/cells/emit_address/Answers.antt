use Rattle.std.proofs.Common.{Some, refl, ap, ◌∙◌}
use Rattle.cell_runtime.proofs.ItemEquality.{same_addi, same_sw}
use Rattle.rv_place.proofs.Emissions.{grew_so, grew_then}
use Rattle.rv_place.proofs.cells.emit_address.Goals as goal

pub returns : goal.returns
returns c =
    grew_so refl
    (λ code at row. (
      row.1.0,
      row.1.1,
      (row.0 ∙ ap Some (same_addi refl refl refl), (row.1.2 ∙ ap Some (same_sw refl refl refl), tt)),
    ))
    (grew_then c.in_ok-emit.ensures c.in_ok-emit_second.ensures)
