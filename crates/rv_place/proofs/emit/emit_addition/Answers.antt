use Rattle.std.proofs.Common.{Some, refl, ap, ◌∙◌}
use Rattle.cell_runtime.proofs.ItemEquality.{same_addi}
use Rattle.rv_place.proofs.Emissions.{grew_so, on_so}
use Rattle.rv_place.proofs.emit.emit_addition.Goals as goal

pub returns : goal.returns
returns c = on_so c.emit.result (grew_so refl (λ code at here. here ∙ ap Some (same_addi refl refl refl))) c.emit.ensures
