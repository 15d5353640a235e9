use Rattle.std.proofs.Common.{Some, refl, ap, ◌∙◌}
use Rattle.rv_isa.proofs.RangeEquality.{same_register}
use Rattle.rv_isa.specs.declared.instr.Instr.TheVariants.{Andi}
use Rattle.cell_runtime.proofs.ItemEquality.{same_bne}
use Rattle.rv_place.specs.Registers.{ra}
use Rattle.rv_place.proofs.Emissions.{grew_so, grew_then}
use Rattle.rv_place.proofs.cells.emit_dup.Goals as goal

pub returns : goal.returns
returns c =
    grew_so refl
    (λ code at row. (
      c.new-one.result,
      c.new-over.result,
      c.new-one.ensures,
      c.new-over.ensures,
      (row.0 ∙ ap Some (ap (λ r. Andi r c.args.reference c.new-one.result) (same_register _ ra refl)), (row.1.0 ∙ ap Some (same_bne refl refl refl), tt)),
      row.1.1,
    ))
    (grew_then c.in_ok-emit.ensures (grew_then c.in_ok-emit-2.ensures c.in_ok-emit_raised.ensures))
