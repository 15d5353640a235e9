use Rattle.std.proofs.Common.{[], ap, ◌∷◌}
use Rattle.kk_counted.specs.CountedForms.{computes}
use Rattle.kk_emitter.proofs.DraftChanges.{took_is}
use Rattle.kk_emitter.specs.Works.{used_at}
use Rattle.kk_emitter.specs.declared.work.Work.{Work}
use Rattle.kk_emitter.proofs.work.Work.compute.Goals as goal

pub returns-clause-ok : goal.returns-clause-ok
returns-clause-ok c =
    λ positions counts marks. took_is positions counts marks c.args.self.now c.make_room.new.self c.use_up.new.self c.push.new.self c.make_room.new.self.spare (used_at c.args.parameters.now c.args.arguments.now) _ _ (computes c.args.self.now.next c.args.form c.args.arguments.now) c.make_room.ensures.same c.make_room.ensures.owed c.use_up.ensures.same c.use_up.ensures.owed c.in_ok-push.ensures.items (ap (λ move. move ∷ []) c.in_ok-step.ensures)
    (ap (λ (w : Work). computes w.next c.args.form c.args.arguments.now ∷ []) c.make_room.ensures.same)
