use Rattle.std.proofs.Common.{refl, subst}
use Rattle.rv_isa.proofs.RangeEquality.{same_register}
use Rattle.rv_place.specs.Registers.{zero_register}
use Rattle.rv_place.specs.Instructions.{JumpsBy}
use Rattle.rv_place.proofs.Emissions.{grew_so, on_so}
use Rattle.rv_place.proofs.emit.emit_jump.Goals as goal

pub returns : goal.returns
returns c =
    on_so c.emit_jump_by.result
    (grew_so refl (λ code at jumps is reaches. subst (λ back. JumpsBy c.args.reach code at back c.args.target) (same_register _ zero_register refl) (jumps is reaches)))
    c.emit_jump_by.ensures
