use Rattle.std.proofs.Common.{Bool, Some, refl, sym, ap, ◌∙◌, subst}
use Rattle.cell_runtime.proofs.ItemEquality.{same_sw}
use Rattle.rv_place.specs.Emitted.{Grew}
use Rattle.rv_place.specs.Instructions.{NamesSlot, words_to_name}
use Rattle.rv_place.proofs.Emissions.{grew_so, on_so}
use Rattle.rv_place.proofs.cells.emit_name.Goals as goal

pub returns-then-at_pointer : goal.returns-then-at_pointer
returns-then-at_pointer c =
    on_so c.emit_second.result
    (λ grew. subst (λ (own : Bool). Grew (words_to_name own) (λ code at. NamesSlot own c.args.token code at c.args.slot) c.args.code.now.items c.emit_second.new.code.items)
    (sym c.if-at_pointer.true)
    (grew_so refl (λ code at row. (row.0, row.1, row.2 ∙ ap Some (same_sw refl refl refl))) grew))
    c.emit_second.ensures
