use Rattle.std.proofs.Common.{◌≡◌, ◌*◌, Some, refl, sym, ap, ◌∙◌, subst}
use Rattle.rv_isa.specs.Arithmetic.{sum_word}
use Rattle.rv_place.specs.Addresses.{branch_words}
use Rattle.rv_place.specs.Emitted.{AreNear}
use Rattle.rv_place.proofs.Emissions.{grew_so, on_so}
use Rattle.rv_place.proofs.emit.emit_near_branch.Goals as goal

pub returns : goal.returns
returns c =
    let offset = c.branch_offset-offset.result in
    on_so c.emit.result
    (grew_so refl
    (λ code at here is reaches.
    let near = subst (λ p. AreNear (4 * branch_words) p c.args.target) is reaches in
    (offset, subst (λ p. sum_word p offset.word ≡ c.args.target) (sym is) (c.branch_offset-offset.ensures near), here ∙ ap Some c.branch_instruction.ensures)))
    c.emit.ensures
