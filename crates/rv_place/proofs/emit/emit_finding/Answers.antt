use Rattle.std.proofs.Common.{refl}
use Rattle.rv_place.proofs.Emissions.{on_so}
use Rattle.rv_place.proofs.PointerShifts.{found_narrow, found_wide}
use Rattle.rv_place.proofs.emit.emit_finding.Goals as goal

pub returns-in-Near : goal.returns-in-Near
returns-in-Near c = found_narrow c.args.free c.in-Near.is

pub returns-in-Wide : goal.returns-in-Wide
returns-in-Wide c = on_so c.emit.result (found_wide c.in-Wide.is c.new-down.result c.new-down.ensures refl) c.emit.ensures
