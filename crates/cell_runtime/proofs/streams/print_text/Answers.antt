use Rattle.std.proofs.Common.{refl}
use Rattle.cell_runtime.proofs.ItemEquality.{made, then_set, then_plain, then_back, same_addi}
use Rattle.cell_runtime.proofs.Spelling.{plain}
use Rattle.cell_runtime.proofs.TextRuns.{print_text_code, print_text_makes}
use Rattle.cell_runtime.proofs.streams.print_text.Goals as goal

pub returns : goal.returns
returns c =
    made (plain print_text_code)
    (then_plain c.addi.ensures (same_addi refl refl c.small.ensures)
    (then_plain c.addi-2.ensures (same_addi refl refl c.small-2.ensures)
    (then_set c.set.ensures refl refl refl
    (then_set c.set-2.ensures refl refl refl
    (then_plain c.ecall.ensures refl
    (then_back c.ret.ensures refl refl refl refl))))))
    print_text_makes
