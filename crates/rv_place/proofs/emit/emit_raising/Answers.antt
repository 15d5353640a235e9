use Rattle.rv_place.proofs.Emissions.{on_so}
use Rattle.rv_place.proofs.PointerShifts.{shift_narrow}
use Rattle.rv_place.proofs.emit.emit_raising.Goals as goal

pub returns-in-Near : goal.returns-in-Near
returns-in-Near c = on_so c.emit_addition.result (shift_narrow c.in-Near.is c.new.result c.new.ensures) c.emit_addition.ensures
