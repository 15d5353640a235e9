use Rattle.std.proofs.Common.{refl}
use Rattle.cell_runtime.proofs.RoutineLines.{print_int_lines}
use Rattle.cell_runtime.proofs.ItemEquality.{made, then_branch, then_label, then_address_of, then_set, then_plain, then_back, same_addi, same_add, same_sub, same_sb, same_remu, same_divu}
use Rattle.cell_runtime.proofs.IntRuns.{print_int_makes}
use Rattle.cell_runtime.proofs.streams.print_int.Goals as goal

pub returns : goal.returns
returns c =
    made print_int_lines
    (then_address_of c.address.ensures refl refl
    (then_plain c.add.ensures (same_add refl refl refl)
    (then_set c.set.ensures refl refl refl
    (then_plain c.sb.ensures (same_sb refl refl c.small.ensures)
    (then_plain c.addi.ensures (same_addi refl refl c.small-2.ensures)
    (then_branch c.bge.ensures refl refl
    (then_plain c.sub.ensures (same_sub refl refl refl)
    (then_label c.label.ensures
    (then_plain c.remu.ensures (same_remu refl refl refl)
    (then_plain c.divu.ensures (same_divu refl refl refl)
    (then_plain c.addi-2.ensures (same_addi refl refl c.small-3.ensures)
    (then_plain c.addi-3.ensures (same_addi refl refl c.minus_one.ensures)
    (then_plain c.sb-2.ensures (same_sb refl refl c.small-4.ensures)
    (then_branch c.bne.ensures refl refl
    (then_branch c.bge-2.ensures refl refl
    (then_set c.set-2.ensures refl refl refl
    (then_plain c.addi-4.ensures (same_addi refl refl c.minus_one-2.ensures)
    (then_plain c.sb-3.ensures (same_sb refl refl c.small-5.ensures)
    (then_label c.label-2.ensures
    (then_plain c.sub-2.ensures (same_sub refl refl refl)
    (then_plain c.addi-5.ensures (same_addi refl refl c.small-6.ensures)
    (then_set c.set-3.ensures refl refl refl
    (then_set c.set-4.ensures refl refl refl
    (then_plain c.ecall.ensures refl
    (then_back c.ret.ensures refl refl refl refl)))))))))))))))))))))))))
    print_int_makes
