use Rattle.std.proofs.Common.{◌≡◌, Some, refl, ap, ◌∙◌, arith}
use Rattle.cell_runtime.proofs.ItemEquality.{same_jalr}
use Rattle.rv_isa.specs.Arithmetic.{sum_word}
use Rattle.rv_place.proofs.Emissions.{grew_so, grew_then, same_auipc}
use Rattle.rv_place.proofs.emit.emit_far_jump.Goals as goal

-- the parts of a distance lead from an address to the target
pub returns : goal.returns
returns c =
    let upper = c.split.result.0 in
    let lower = c.split.result.1 in
    grew_so refl
    (λ code at row is.
    let sum : sum_word (sum_word at upper.word) lower.word ≡ c.args.target = omega (arith, is, c.split.ensures) in
    (upper, lower, sum, (row.0 ∙ ap Some (same_auipc refl), (row.1 ∙ ap Some (same_jalr refl refl refl), tt))))
    (grew_then c.in_ok-emit.ensures c.in_ok-emit-2.ensures)
