use Rattle.std.proofs.Common.{ap, ◌∙◌}
use Rattle.kk_emitter.specs.Drafts.{chosen_of}
use Rattle.kk_emitter.proofs.ChosenPlaces.{chosen_taken, chosen_left}
use Rattle.kk_emitter.proofs.lists.chosen.Goals as goal
use Rattle.kk_emitter.proofs.lists.chosen.Goals.{then-rest-eq1+in_ok-push, else-rest-eq1}

pub loop-variable-preserved : goal.loop-variable-preserved
loop-variable-preserved c =
    let xs = c.args.variables.now in
    let i = c.loop-variable.variable-index in
    let all = chosen_of c.args.mask xs in
    elim c.if-rest-eq1.branch [
      | then-rest-eq1+in_ok-push w ↦ chosen_taken c.loop-variable.found.items c.if-rest-eq1.found.items c.loop-variable.rest xs i 0 all c.loop-variable-test.true w.if-rest-eq1.true (ap (λ v. v.items) w.found-is ∙ w.in_ok-push.ensures.items) c.loop-variable.invariant
      | else-rest-eq1 w ↦ chosen_left c.loop-variable.found.items c.if-rest-eq1.found.items c.loop-variable.rest xs i 0 all c.loop-variable-test.true w.if-rest-eq1.false (ap (λ v. v.items) w.found-is) c.loop-variable.invariant
    ]
