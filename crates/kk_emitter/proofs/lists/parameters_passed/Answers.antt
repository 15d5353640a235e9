use Rattle.std.proofs.Common.{sym, ap, ◌∙◌, length}
use Rattle.kk_counted.specs.Spending.{at_positions, numbers_from}
use Rattle.kk_emitter.specs.Works.{passes}
use Rattle.kk_emitter.proofs.ChosenPlaces.{numbers_taken, numbers_left}
use Rattle.kk_emitter.proofs.lists.parameters_passed.Goals as goal
use Rattle.kk_emitter.proofs.lists.parameters_passed.Goals.{then-passes+in_ok-push, else-passes}

pub loop-at-preserved : goal.loop-at-preserved
loop-at-preserved c =
    let takes = passes c.args.parameters.now c.args.lent in
    let n = length c.args.parameters.now in
    let all = at_positions takes 0 (numbers_from 0 n) in
    elim c.if-passes.branch [
      | then-passes+in_ok-push w ↦ numbers_taken takes c.loop-at.found.items c.if-passes.found.items c.loop-at.at n all c.loop-at-test.true (sym c.passes.ensures ∙ w.if-passes.true) (ap (λ v. v.items) w.found-is ∙ w.in_ok-push.ensures.items) c.loop-at.invariant
      | else-passes w ↦ numbers_left takes c.loop-at.found.items c.if-passes.found.items c.loop-at.at n all c.loop-at-test.true (sym c.passes.ensures ∙ w.if-passes.false) (ap (λ v. v.items) w.found-is) c.loop-at.invariant
    ]
