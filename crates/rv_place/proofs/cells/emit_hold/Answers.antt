use Rattle.std.proofs.Common.{Bool, Some, refl, ap, ◌∙◌, arith, subst}
use Rattle.cell_runtime.proofs.ItemEquality.{same_beq}
use Rattle.rv_place.specs.Instructions.{HoldsToken, words_to_hold}
use Rattle.rv_place.specs.Emitted.{Grew, TokenBy}
use Rattle.rv_place.proofs.Emissions.{grew_so, grew_then}
use Rattle.rv_place.proofs.cells.emit_hold.Goals as goal

pub returns : goal.returns
returns c =
    subst (λ (there : Bool). Grew (words_to_hold there) (TokenBy (HoldsToken there c.args.token) c.args.jumps c.args.args.now) c.args.code.now.items c.emit_link.new.code.items)
    c.is_at_pointer-at_pointer.ensures
    (grew_so (omega arith)
    (λ code at row k is. (
      c.token_offset-slot.result,
      c.token_offset-slot.ensures k is,
      (c.over_link-over.result, c.over_link-over.ensures, row.0 ∙ ap Some (same_beq refl refl refl), row.1),
    ))
    (grew_then c.in_ok-emit.ensures c.in_ok-emit_link.ensures))
