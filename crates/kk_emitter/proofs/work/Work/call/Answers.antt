use Rattle.std.proofs.Common.{[], ap, reverse, ◌∙◌, ◌∷◌}
use Rattle.kk_counted.specs.CountedForms.{computes}
use Rattle.kk_counted.specs.TokenedForms.{TokenedMove}
use Rattle.kk_emitter.proofs.DraftChanges.{took_is}
use Rattle.kk_emitter.proofs.TokenDraftChanges.{bare_call}
use Rattle.kk_emitter.specs.Works.{used_at}
use Rattle.kk_syntax.specs.declared.program.Form.TheVariants.{Call}
use Rattle.kk_emitter.specs.declared.work.Work.{Work}
use Rattle.kk_emitter.proofs.work.Work.call.Goals as goal

pub returns-clause-ok : goal.returns-clause-ok
returns-clause-ok c =
    λ positions counts marks. let call = TokenedMove.computes c.make_room.new.self.next (Call c.args.instance) c.args.arguments.now (reverse c.make_room.new.self.spare.items) in
    took_is positions counts marks c.args.self.now c.make_room.new.self c.use_up.new.self c.append.new.self c.make_room.new.self.spare (used_at c.args.parameters.now c.args.arguments.now) _ _ (computes c.args.self.now.next (Call c.args.instance) c.args.arguments.now) c.make_room.ensures.same c.make_room.ensures.owed c.use_up.ensures.same c.use_up.ensures.owed c.in_ok-append.ensures.items c.in_ok-steps.ensures
    (bare_call (reverse c.make_room.new.self.spare.items) call ∙ ap (λ (w : Work). computes w.next (Call c.args.instance) c.args.arguments.now ∷ []) c.make_room.ensures.same)
