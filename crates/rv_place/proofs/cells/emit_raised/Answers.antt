use Rattle.std.proofs.Common.{Some, refl, ap, ◌∙◌}
use Rattle.cell_runtime.proofs.Operands.{imm_0}
use Rattle.cell_runtime.proofs.ItemEquality.{same_addi, same_lw, same_sw}
use Rattle.rv_place.proofs.Emissions.{grew_so, grew_then}
use Rattle.rv_place.proofs.cells.emit_raised.Goals as goal

pub returns : goal.returns
returns c =
    grew_so refl
    (λ code at row. (
      imm_0,
      refl,
      (row.0 ∙ ap Some (same_lw refl refl refl), (row.1.0 ∙ ap Some (same_addi refl refl refl), (row.1.1 ∙ ap Some (same_sw refl refl refl), tt))),
    ))
    (grew_then c.in_ok-emit.ensures (grew_then c.in_ok-emit-2.ensures c.in_ok-emit-3.ensures))
