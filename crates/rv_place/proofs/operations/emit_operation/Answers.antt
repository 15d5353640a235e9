use Rattle.std.proofs.Common.{refl}
use Rattle.rv_place.proofs.Emissions.{on_so}
use Rattle.rv_place.proofs.OperationInstructions.{on_two, on_immediate, on_shift, on_copy, on_word, on_address, on_load, on_store, on_dup, on_free}
use Rattle.rv_place.proofs.operations.emit_operation.Goals as goal

pub returns-in-Register : goal.returns-in-Register
returns-in-Register c =
    on_so c.emit.result
    (on_two c.args.chart.now c.args.args.now c.args.into c.in-Register.is c.register_or_zero-rd.ensures c.argument-rs1.ensures c.argument-rs2.ensures c.register_instruction.ensures)
    c.emit.ensures

pub returns-in-Immediate : goal.returns-in-Immediate
returns-in-Immediate c =
    on_so c.emit-in-Immediate.result
    (on_immediate c.args.chart.now c.args.args.now c.args.into c.in-Immediate.is c.register_or_zero-rd.ensures c.argument-rs1.ensures c.immediate_instruction.ensures)
    c.emit-in-Immediate.ensures

pub returns-in-Shift : goal.returns-in-Shift
returns-in-Shift c =
    on_so c.emit-in-Shift.result
    (on_shift c.args.chart.now c.args.args.now c.args.into c.in-Shift.is c.register_or_zero-rd.ensures c.argument-rs1.ensures c.shift_instruction.ensures)
    c.emit-in-Shift.ensures

pub returns-in-Li : goal.returns-in-Li
returns-in-Li c = on_so c.emit_constant.result (on_word c.args.chart.now c.args.args.now c.args.into c.in-Li.is c.register_or_zero-rd.ensures) c.emit_constant.ensures

pub returns-in-Mv : goal.returns-in-Mv
returns-in-Mv c =
    on_so c.emit-in-Mv.result (on_copy c.args.chart.now c.args.args.now c.args.into c.in-Mv.is c.register_or_zero-rd.ensures c.argument-rs1.ensures refl) c.emit-in-Mv.ensures

pub returns-in-La : goal.returns-in-La
returns-in-La c =
    on_so c.emit_load.result (on_address c.args.chart.now c.args.args.now c.args.into c.in-La.is c.register_or_zero-rd.ensures c.constant.ensures) c.emit_load.ensures

pub returns-in-Lw : goal.returns-in-Lw
returns-in-Lw c =
    on_so c.emit-in-Lw.result (on_load c.args.chart.now c.args.args.now c.args.into c.in-Lw.is c.register_or_zero-rd.ensures c.argument-rs1.ensures) c.emit-in-Lw.ensures

pub returns-in-Sw : goal.returns-in-Sw
returns-in-Sw c = on_so c.emit-in-Sw.result (on_store c.args.chart.now c.args.args.now c.args.into c.in-Sw.is c.argument-rs1.ensures c.argument-rs2.ensures) c.emit-in-Sw.ensures

pub returns-in-Dup : goal.returns-in-Dup
returns-in-Dup c = on_so c.emit_dup.result (on_dup c.args.chart.now c.args.args.now c.args.into c.in-Dup.is c.argument-rs1.ensures) c.emit_dup.ensures

pub returns-in-Free : goal.returns-in-Free
returns-in-Free c = on_so c.emit_free.result (on_free c.args.chart.now c.args.args.now c.args.into c.in-Free.is c.argument-rs1.ensures) c.emit_free.ensures
