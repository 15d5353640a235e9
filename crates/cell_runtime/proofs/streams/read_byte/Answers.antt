use Rattle.std.proofs.Common.{refl}
use Rattle.cell_runtime.proofs.RoutineLines.{read_byte_lines}
use Rattle.cell_runtime.proofs.ItemEquality.{made, then_branch, then_label, then_address_of, then_set, then_plain, then_back, same_addi, same_lbu}
use Rattle.cell_runtime.proofs.ByteRuns.{read_byte_makes}
use Rattle.cell_runtime.proofs.streams.read_byte.Goals as goal

pub returns : goal.returns
returns c =
    made read_byte_lines
    (then_address_of c.address.ensures refl refl
    (then_set c.set.ensures refl refl refl
    (then_set c.set-2.ensures refl refl refl
    (then_set c.set-3.ensures refl refl refl
    (then_plain c.ecall.ensures refl
    (then_plain c.addi.ensures (same_addi refl refl c.minus_one.ensures)
    (then_branch c.bne.ensures refl refl
    (then_plain c.lbu.ensures (same_lbu refl refl c.small.ensures)
    (then_label c.label.ensures
    (then_back c.ret.ensures refl refl refl refl))))))))))
    read_byte_makes
