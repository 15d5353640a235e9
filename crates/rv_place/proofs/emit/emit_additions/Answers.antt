use Rattle.std.proofs.Common.{refl}
use Rattle.rv_place.proofs.Emissions.{grew_so, grew_then}
use Rattle.rv_place.proofs.emit.emit_additions.Goals as goal

pub returns : goal.returns
returns c =
    grew_so refl (λ code at row. (c.args.first, c.args.second, refl, (row.0, (row.1, tt))))
    (grew_then c.in_ok-emit_addition.ensures c.in_ok-emit_addition-2.ensures)
