use Rattle.std.proofs.Common.{◌≡◌, ◌+◌, ◌*◌, Some, refl, ap, ◌∙◌, arith}
use Rattle.cell_runtime.proofs.Operands.{imm_0}
use Rattle.cell_runtime.proofs.ItemEquality.{same_addi, same_sw}
use Rattle.rv_place.specs.Instructions.{words_to_name}
use Rattle.rv_place.proofs.Emissions.{grew_so, grew_then}
use Rattle.rv_place.proofs.cells.emit_link.Goals as goal

pub returns : goal.returns
returns c =
    grew_so (omega arith)
    (λ code at row.
    let behind : at + 4 + 4 * words_to_name c.args.at_pointer ≡ at + 4 * (1 + words_to_name c.args.at_pointer) = omega arith in (
      imm_0,
      refl,
      row.0.0 ∙ ap Some (same_sw refl refl refl),
      row.0.1,
      ap code behind ∙ row.1 ∙ ap Some (same_addi refl refl refl),
    ))
    (grew_then (grew_then c.in_ok-emit.ensures c.in_ok-emit_name.ensures) c.in_ok-emit-2.ensures)
