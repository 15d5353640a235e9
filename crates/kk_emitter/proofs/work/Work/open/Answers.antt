use Rattle.std.proofs.Common.{[], ap, map, refl, rules, ◌++◌, ◌+◌, ◌∙◌, ◌∷◌}
use Rattle.kk_counted.specs.Spending.{numbers_from}
use Rattle.kk_counted.specs.TokenedForms.{opens_with, tokened_move}
use Rattle.kk_counted.specs.VariableLists.{minus}
use Rattle.kk_emitter.proofs.DraftChanges.{same_draft, steps_more}
use Rattle.kk_emitter.proofs.TokenDraftChanges.{bare_open}
use Rattle.kk_emitter.specs.Drafts.{chosen_of, opens_by}
use Rattle.kk_emitter.specs.TokenDrafts.{bare_moves}
use Rattle.kk_emitter.specs.Works.{draft}
use Rattle.kk_emitter.proofs.work.Work.open.Goals as goal

pub returns-clause-ok : goal.returns-clause-ok
returns-clause-ok c =
    λ positions counts marks. let d = draft positions counts marks c.args.self.now in
    let fields = (numbers_from c.args.self.now.next c.args.count) in
    same_draft d c.in_ok-fields.next (c.args.self.now.next + c.args.count) (bare_moves (map tokened_move c.push.new.self.items)) (d.steps ++ opens_by c.args.by_count c.args.variable c.args.constructor fields (chosen_of c.args.used fields) ∷ []) c.extend_from_slice.new.self.items (minus c.args.variable c.args.self.now.owed.items ++ chosen_of c.args.used fields) d.uncalled d.uncalled d.splits d.splits d.ending d.ending
    c.in_ok-fields.ensures.next
    (steps_more c.args.self.now.steps.items c.push.new.self.items _ (opens_with c.args.by_count c.args.variable c.args.constructor fields (chosen_of c.args.used fields) c.in_ok-slot.slot ∷ []) c.in_ok-push.ensures.items (ap (λ move. move ∷ []) (c.opening_step-step.ensures
    ∙ (ap (λ fields. opens_with c.args.by_count c.args.variable c.args.constructor fields c.in_ok-names.names.items c.in_ok-slot.slot) c.in_ok-fields.ensures.items
    ∙ ap (λ names. opens_with c.args.by_count c.args.variable c.args.constructor (numbers_from c.args.self.now.next c.args.count) names c.in_ok-slot.slot) (c.in_ok-names.ensures ∙ (ap (chosen_of c.args.used) (c.deref-2.ensures.value ∙ c.in_ok-fields.ensures.items))))))
    ∙ ap (λ moves. d.steps ++ moves) (bare_open c.args.by_count c.args.variable c.args.constructor fields (chosen_of c.args.used fields) c.in_ok-slot.slot))
    (search rules)
    refl refl refl
