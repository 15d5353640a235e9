use Rattle.std.proofs.Common.{[], ap, reverse, ◌++◌, ◌∙◌, ◌∷◌}
use Rattle.kk_counted.specs.CountedForms.{computes}
use Rattle.kk_counted.specs.TokenedForms.{fills_with}
use Rattle.kk_counted.specs.VariableLists.{minus_all}
use Rattle.kk_emitter.proofs.DraftChanges.{took_is, took_token}
use Rattle.kk_emitter.proofs.EmitterCalls.{all_used}
use Rattle.kk_emitter.proofs.TokenDraftChanges.{bare_fills}
use Rattle.kk_syntax.specs.Shapes.{without}
use Rattle.kk_syntax.specs.declared.program.Form.TheVariants.{Construct}
use Rattle.kk_emitter.specs.declared.work.Work.{Work}
use Rattle.kk_emitter.proofs.work.Work.fill.Goals as goal

pub returns-clause-ok : goal.returns-clause-ok
returns-clause-ok c =
    λ positions counts marks. took_is positions counts marks c.args.self.now c.make_room.new.self c.use_up.new.self c.push.new.self c.take_slot.new.slots c.args.arguments.now _ _ (computes c.args.self.now.next (Construct c.args.constructor) c.args.arguments.now) c.make_room.ensures.same c.make_room.ensures.owed c.use_up.ensures.same
    (c.use_up.ensures.owed ∙ ap (λ xs. minus_all xs c.make_room.new.self.owed.items ++ c.make_room.new.self.next ∷ []) (all_used c.args.arguments.now)) c.in_ok-push.ensures.items (ap (λ move. move ∷ []) c.in_ok-step.ensures)
    (bare_fills c.make_room.new.self.next c.args.slot c.args.constructor c.args.arguments.now c.args.kept.items (without (c.args.slot ∷ []) (reverse c.make_room.new.self.spare.items)) ∙ ap (λ (w : Work). computes w.next (Construct c.args.constructor) c.args.arguments.now ∷ []) c.make_room.ensures.same)

pub returns-clause-tokens : goal.returns-clause-tokens
returns-clause-tokens c =
    took_token c.args.self.now c.make_room.new.self c.use_up.new.self c.push.new.self c.take_slot.new.slots _ (fills_with c.args.self.now.next c.args.slot c.args.constructor c.args.arguments.now c.args.kept.items (without (c.args.slot ∷ []) (reverse c.args.self.now.spare.items))) c.args.slot c.make_room.ensures.same c.use_up.ensures.same c.in_ok-push.ensures.items c.take_slot.ensures
    (c.in_ok-step.ensures ∙ ap (λ (w : Work). (fills_with w.next c.args.slot c.args.constructor c.args.arguments.now c.args.kept.items (without (c.args.slot ∷ []) (reverse w.spare.items)))) c.make_room.ensures.same)
