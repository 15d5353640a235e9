use Rattle.std.proofs.Common.{refl}
use Rattle.rv_place.proofs.Emissions.{on_so}
use Rattle.rv_place.proofs.MoveInstructions.{moves_copy, moves_load, moves_store}
use Rattle.rv_place.proofs.emit.emit_move.Goals as goal

pub returns-in-Copy : goal.returns-in-Copy
returns-in-Copy c = on_so c.emit.result (moves_copy c.args.chart.now c.in-Copy.is refl) c.emit.ensures

pub returns-in-Load : goal.returns-in-Load
returns-in-Load c =
    on_so c.emit-in-Load.result (moves_load c.args.chart.now c.in-Load.is c.slot_offset.ensures c.requires.slots refl) c.emit-in-Load.ensures

pub returns-in-Store : goal.returns-in-Store
returns-in-Store c =
    on_so c.emit-in-Store.result (moves_store c.args.chart.now c.in-Store.is c.slot_offset-in-Store.ensures c.requires.slots refl) c.emit-in-Store.ensures
