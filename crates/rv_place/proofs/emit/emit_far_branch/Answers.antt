use Rattle.std.proofs.Common.{Some, ◌+◌, refl, ap, ◌∙◌}
use Rattle.rv_isa.specs.declared.asm.Condition.{Condition}
use Rattle.rv_place.specs.Instructions.{branch_instruction}
use Rattle.rv_place.proofs.Emissions.{grew_so, grew_then}
use Rattle.rv_place.proofs.emit.emit_far_branch.Goals as goal

pub returns : goal.returns
returns c =
    let over = c.over_jump-over.result in
    let turned = ap (λ (of : Condition). branch_instruction of c.args.left c.args.right over) c.opposite.ensures in
    grew_so refl
    (λ code at row is reaches. (over, c.over_jump-over.ensures, row.0 ∙ ap Some (c.branch_instruction.ensures ∙ turned), row.1 (ap (λ p. p + 4) is) reaches))
    (grew_then c.in_ok-emit.ensures c.in_ok-emit_jump.ensures)
