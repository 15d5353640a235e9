use Rattle.std.proofs.Common.{refl}
use Rattle.rv_place.proofs.Emissions.{grew_so, grew_then}
use Rattle.rv_place.proofs.emit.emit_load.Goals as goal

pub returns : goal.returns
returns c =
    grew_so refl (λ code at row. (c.split.result.0, c.split.result.1, c.split.ensures, (row.0, (row.1, tt))))
    (grew_then c.in_ok-emit.ensures c.in_ok-emit-2.ensures)
