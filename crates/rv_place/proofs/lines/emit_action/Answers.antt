use Rattle.std.proofs.Common.{refl}
use Rattle.rv_place.proofs.Emissions.{on_so}
use Rattle.rv_place.proofs.LineInstructions.{on_operation, on_jump, on_branch, on_call, on_tail_call, on_return, on_routine, on_hold, on_unhold, on_room}
use Rattle.rv_place.proofs.lines.emit_action.Goals as goal

pub returns-in-Compute : goal.returns-in-Compute
returns-in-Compute c =
    on_so c.emit_operation.result
    (on_operation c.args.chart.now c.args.labels.now c.args.at c.args.args.now c.args.into c.in-Compute.is)
    c.emit_operation.ensures

pub returns-in-Jump : goal.returns-in-Jump
returns-in-Jump c =
    on_so c.emit_jump.result
    (on_jump c.args.chart.now c.args.labels.now c.args.at c.args.args.now c.args.into c.in-Jump.is c.address.ensures)
    c.emit_jump.ensures

pub returns-in-Branch : goal.returns-in-Branch
returns-in-Branch c =
    on_so c.emit_branch.result
    (on_branch c.args.chart.now c.args.labels.now c.args.at c.args.args.now c.args.into c.in-Branch.is c.address-target.ensures c.argument-left.ensures c.argument-right.ensures)
    c.emit_branch.ensures

pub returns-in-Call : goal.returns-in-Call
returns-in-Call c =
    on_so c.emit_call.result
    (on_call c.args.chart.now c.args.labels.now c.args.at c.args.args.now c.args.into c.in-Call.is c.entry.ensures)
    c.emit_call.ensures

pub returns-in-TailCall : goal.returns-in-TailCall
returns-in-TailCall c =
    on_so c.emit_jump-in-TailCall.result
    (on_tail_call c.args.chart.now c.args.labels.now c.args.at c.args.args.now c.args.into c.in-TailCall.is c.tail.ensures)
    c.emit_jump-in-TailCall.ensures

pub returns-in-Return : goal.returns-in-Return
returns-in-Return c =
    on_so c.emit_return.result
    (on_return c.args.chart.now c.args.labels.now c.args.at c.args.args.now c.args.into c.in-Return.is c.requires.same)
    c.emit_return.ensures

pub returns-in-Routine : goal.returns-in-Routine
returns-in-Routine c =
    on_so c.emit_routine.result
    (on_routine c.args.chart.now c.args.labels.now c.args.at c.args.args.now c.args.into c.in-Routine.is c.routine.ensures)
    c.emit_routine.ensures

pub returns-in-Hold : goal.returns-in-Hold
returns-in-Hold c =
    on_so c.emit_hold.result
    (on_hold c.args.chart.now c.args.labels.now c.args.at c.args.args.now c.args.into c.in-Hold.is c.argument.ensures c.requires.slots)
    c.emit_hold.ensures

pub returns-in-Unhold : goal.returns-in-Unhold
returns-in-Unhold c =
    on_so c.emit_unhold.result
    (on_unhold c.args.chart.now c.args.labels.now c.args.at c.args.args.now c.args.into c.in-Unhold.is c.token_into.ensures c.requires.slots)
    c.emit_unhold.ensures

pub returns-in-Room : goal.returns-in-Room
returns-in-Room c =
    on_so c.emit_test.result
    (on_room c.args.chart.now c.args.labels.now c.args.at c.args.args.now c.args.into c.in-Room.is c.requires.same refl)
    c.emit_test.ensures
