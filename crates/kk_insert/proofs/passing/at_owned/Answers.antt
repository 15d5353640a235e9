use Rattle.std.proofs.Common.{sym, ap, ◌∙◌, [], not}
use Rattle.kk_syntax.specs.PositionsOf.{positions_of}
use Rattle.kk_counted.specs.Spending.{at_positions, is_owned}
use Rattle.kk_insert.proofs.ListEnds.{position_taken, position_left}
use Rattle.kk_insert.proofs.passing.at_owned.Goals as goal
use Rattle.kk_insert.proofs.passing.at_owned.Goals.{then-not-is_lent+in_ok-push, else-not-is_lent}

pub loop-at-preserved : goal.loop-at-preserved
loop-at-preserved c =
    let takes = is_owned (positions_of c.args.positions.now) [] c.args.function in
    let xs = c.args.arguments.now in
    elim c.if-not-is_lent.branch [
      | then-not-is_lent+in_ok-push w ↦ position_taken takes c.loop-at.found.items c.if-not-is_lent.found.items c.loop-at.at 0 xs (at_positions takes 0 xs) c.loop-at-test.true (sym (ap not c.is_lent.ensures) ∙ ap not w.if-not-is_lent.true) (ap (λ v. v.items) w.found-is ∙ w.in_ok-push.ensures.items) c.loop-at.invariant
      | else-not-is_lent w ↦ position_left takes c.loop-at.found.items c.if-not-is_lent.found.items c.loop-at.at 0 xs (at_positions takes 0 xs) c.loop-at-test.true (sym (ap not c.is_lent.ensures) ∙ ap not w.if-not-is_lent.false) (ap (λ v. v.items) w.found-is) c.loop-at.invariant
    ]
