use Rattle.std.proofs.Common.{Some, refl, ap, ◌∙◌}
use Rattle.cell_runtime.proofs.Operands.{imm_0}
use Rattle.cell_runtime.proofs.ItemEquality.{same_jalr}
use Rattle.rv_place.proofs.Emissions.{on_so, grew_so}
use Rattle.rv_place.proofs.emit.emit_going.Goals as goal

pub returns : goal.returns
returns c = on_so c.emit.result (grew_so refl (λ code at here. (imm_0, refl, here ∙ ap Some (same_jalr refl refl refl)))) c.emit.ensures
