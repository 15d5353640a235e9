use Rattle.rv_place.proofs.Emissions.{on_so}
use Rattle.rv_place.proofs.JumpInstructions.{jump_near, jump_far}
use Rattle.rv_place.proofs.emit.emit_jump_by.Goals as goal

pub returns-in-Near : goal.returns-in-Near
returns-in-Near c = on_so c.emit_near_jump.result (jump_near c.args.at c.args.back c.args.target c.in-Near.is) c.emit_near_jump.ensures

pub returns-in-Far : goal.returns-in-Far
returns-in-Far c = on_so c.emit_far_jump.result (jump_far c.args.at c.args.back c.args.target c.in-Far.is) c.emit_far_jump.ensures
