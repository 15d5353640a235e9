use Rattle.std.proofs.Common.{refl, sym, ◌∙◌}
use Rattle.rv_place.proofs.Emissions.{on_so}
use Rattle.rv_place.proofs.OperationInstructions.{set_short, set_upper}
use Rattle.rv_place.proofs.emit.emit_constant.Goals as goal

pub returns-in-Short : goal.returns-in-Short
returns-in-Short c = on_so c.emit.result (set_short (sym c.in-Short.is ∙ c.of.ensures) refl c.new-imm.result c.new-imm.ensures) c.emit.ensures

pub returns-in-Upper : goal.returns-in-Upper
returns-in-Upper c = on_so c.emit-in-Upper.result (set_upper (sym c.in-Upper.is ∙ c.of.ensures) c.new-imm-in-Upper.result c.new-imm-in-Upper.ensures) c.emit-in-Upper.ensures
