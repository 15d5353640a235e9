use Rattle.std.proofs.Common.{false, sym, ap, ◌∙◌, arith, vec_len, vec_capacity}
use Rattle.kk_emitter.specs.Works.{used_at, passes}
use Rattle.kk_counted.specs.VariableLists.{minus_all}
use Rattle.kk_emitter.proofs.ChosenPlaces.{used_taken, used_left}
use Rattle.kk_emitter.proofs.lists.take_used.Goals as goal
use Rattle.kk_emitter.proofs.lists.take_used.Goals.{then-passes, else-passes}

pub loop-at-preserved : goal.loop-at-preserved
loop-at-preserved c =
    let takes = passes c.args.parameters.now false in
    let xs = c.args.arguments.now in
    let all = minus_all (used_at c.args.parameters.now xs) c.args.owed.now.items in
    elim c.if-passes.branch [
      | then-passes w ↦ (used_taken takes c.loop-at.owed.items c.if-passes.owed.items c.loop-at.at 0 xs all c.loop-at-test.true (sym c.passes.ensures ∙ w.if-passes.true) (ap (λ v. v.items) w.owed-is ∙ w.take_out.ensures.items) c.loop-at.invariant.0, (ap vec_capacity w.owed-is ∙ (w.take_out.ensures.room ∙ c.loop-at.invariant.1.0), omega (arith, ap vec_len w.owed-is, w.take_out.ensures.fewer, c.loop-at.invariant.1.1)))
      | else-passes w ↦ (used_left takes c.loop-at.owed.items c.if-passes.owed.items c.loop-at.at 0 xs all c.loop-at-test.true (sym c.passes.ensures ∙ w.if-passes.false) (ap (λ v. v.items) w.owed-is) c.loop-at.invariant.0, (ap vec_capacity w.owed-is ∙ c.loop-at.invariant.1.0, omega (arith, ap vec_len w.owed-is, c.loop-at.invariant.1.1)))
    ]
