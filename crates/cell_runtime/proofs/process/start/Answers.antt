use Rattle.std.proofs.Common.{refl}
use Rattle.cell_runtime.proofs.ItemEquality.{made, then_set, then_plain, then_address_of, same_jal}
use Rattle.cell_runtime.proofs.StartRuns.{start_items, start_makes}
use Rattle.cell_runtime.proofs.process.start.Goals as goal

pub returns : goal.returns
returns c =
    made (start_items c.args.layout)
    (then_address_of c.address.ensures refl refl
    (then_address_of c.address-2.ensures refl refl
    (then_address_of c.address-3.ensures refl refl
    (then_set c.set.ensures refl refl refl
    (then_set c.set-2.ensures refl refl refl
    (then_set c.set-3.ensures refl refl refl
    (then_set c.set-4.ensures refl refl refl
    (then_plain c.jal.ensures (same_jal refl c.new.ensures) refl))))))))
    (start_makes c.args.layout)
