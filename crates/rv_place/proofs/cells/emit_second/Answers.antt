use Rattle.std.proofs.Common.{Some, refl, ap, ◌∙◌}
use Rattle.cell_runtime.proofs.ItemEquality.{same_sw}
use Rattle.rv_place.proofs.Emissions.{on_so, grew_so}
use Rattle.rv_place.proofs.cells.emit_second.Goals as goal

pub returns : goal.returns
returns c =
    on_so c.emit.result
    (grew_so refl (λ code at row. (c.new-second.result, c.new-second.ensures, row ∙ ap Some (same_sw refl refl refl))))
    c.emit.ensures
