use Rattle.std.proofs.Common.{refl, sym}
use Rattle.cell_runtime.proofs.RoutineLines.{take_lines}
use Rattle.cell_runtime.proofs.ItemEquality.{made, then_branch, then_label, then_set, then_plain, then_back, same_addi, same_lw, same_sw}
use Rattle.cell_runtime.proofs.TakeRuns.{take_makes}
use Rattle.cell_runtime.proofs.cells.take.Goals as goal

pub returns : goal.returns
returns c =
    made take_lines
    (then_branch c.beq.ensures refl refl
    (then_plain c.addi.ensures (same_addi refl refl c.small.ensures)
    (then_plain c.lw.ensures (same_lw refl refl c.small-2.ensures)
    (then_back c.ret.ensures refl refl refl
    (then_label c.label.ensures
    (then_branch c.beq-2.ensures refl refl
    (then_plain c.addi-2.ensures (same_addi refl refl c.small-3.ensures)
    (then_plain c.addi-3.ensures (same_addi refl refl c.small-4.ensures)
    (then_back c.ret-2.ensures refl refl refl
    (then_label c.label-2.ensures
    (then_branch c.beq-3.ensures refl refl
    (then_plain c.addi-4.ensures (same_addi refl refl c.small-5.ensures)
    (then_plain c.lw-2.ensures (same_lw refl refl c.small-6.ensures)
    (then_plain c.sw.ensures (same_sw refl refl c.small-7.ensures)
    (then_plain c.lw-3.ensures (same_lw refl refl c.small-8.ensures)
    (then_back c.ret-3.ensures refl refl refl
    (then_label c.label-3.ensures
    (then_set c.set.ensures refl refl (sym c.number.ensures.number)
    (then_set c.set-2.ensures refl refl refl
    (then_plain c.ecall.ensures refl refl))))))))))))))))))))
    take_makes
