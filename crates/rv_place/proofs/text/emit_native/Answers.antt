use Rattle.rv_place.proofs.Emissions.{on_so}
use Rattle.rv_place.proofs.TextParts.{native_instruction, native_address}
use Rattle.rv_place.proofs.text.emit_native.Goals as goal

pub returns-in-Instruction : goal.returns-in-Instruction
returns-in-Instruction c = on_so c.emit.result (native_instruction c.args.memory c.in-Instruction.is) c.emit.ensures

pub returns-in-Address : goal.returns-in-Address
returns-in-Address c = on_so c.emit_load.result (native_address c.args.memory c.in-Address.is c.requires.line) c.emit_load.ensures
