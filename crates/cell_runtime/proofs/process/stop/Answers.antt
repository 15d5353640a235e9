use Rattle.std.proofs.Common.{◌∙◌, refl}
use Rattle.cell_runtime.proofs.ItemEquality.{made, then_set, then_plain}
use Rattle.cell_runtime.proofs.Spelling.{plain}
use Rattle.cell_runtime.proofs.StopRuns.{stop_code, stop_makes}
use Rattle.cell_runtime.proofs.process.stop.Goals as goal

pub returns : goal.returns
returns c =
    made (plain (stop_code c.set.ensures.immediate))
    (then_set c.set.ensures refl refl c.set.ensures.immediate_is
    (then_set c.set-2.ensures refl refl refl
    (then_plain c.ecall.ensures refl refl)))
    (stop_makes c.args.ending c.set.ensures.immediate (c.set.ensures.immediate_is ∙ c.number.ensures.number))
