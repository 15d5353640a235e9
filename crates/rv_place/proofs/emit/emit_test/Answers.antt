use Rattle.std.proofs.Common.{ℕ, ◌+◌, ◌*◌, refl, sym, ap, ◌∙◌, subst, arith}
use Rattle.rv_place.specs.declared.reach.Reach.{Reach}
use Rattle.rv_place.specs.Lines.{FindsFrame}
use Rattle.rv_place.proofs.Emissions.{grew_so, grew_then}
use Rattle.rv_place.proofs.LineInstructions.{test_branch}
use Rattle.rv_place.proofs.emit.emit_test.Goals as goal

pub returns : goal.returns
returns c =
    let free = c.args.free in
    grew_so (omega arith)
    (λ code at row is map charts inside. record {
      finds = subst (λ (j : Reach). FindsFrame j free code at) charts.jumps row.0;
      full = λ target there. test_branch charts code at target c.args.at free is inside c.frame_register.ensures refl there
          (λ here reaches. row.1 (here ∙ ap (λ (w : ℕ). c.args.at + 4 * w) (sym c.words_to_frame.ensures.words)) reaches);
    })
    (grew_then c.in_ok-emit_finding.ensures c.in_ok-emit_far_branch.ensures)
