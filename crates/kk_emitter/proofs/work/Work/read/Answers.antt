use Rattle.std.proofs.Common.{[], ap, map, refl, rules, ◌++◌, ◌+◌, ◌∙◌, ◌∷◌}
use Rattle.kk_counted.specs.CountedForms.{dups, reads}
use Rattle.kk_counted.specs.Spending.{numbers_from}
use Rattle.kk_counted.specs.TokenedForms.{tokened_move}
use Rattle.kk_emitter.proofs.DraftChanges.{same_draft, steps_more}
use Rattle.kk_emitter.proofs.TokenDraftChanges.{bare_reads}
use Rattle.kk_emitter.specs.Drafts.{chosen_of}
use Rattle.kk_emitter.specs.TokenDrafts.{bare_moves, reads_with}
use Rattle.kk_emitter.specs.Works.{draft}
use Rattle.std.specs.Prelude.{if◌then◌else◌}
use Rattle.kk_syntax.specs.Shapes.{is_among}
use Rattle.kk_emitter.proofs.work.Work.read.Goals as goal

pub returns-clause-ok : goal.returns-clause-ok
returns-clause-ok c =
    λ positions counts marks. let d = draft positions counts marks c.args.self.now in
    let fields = (numbers_from c.args.self.now.next c.args.count) in
    ap (λ xs. record d { next = c.in_ok-fields.next; steps = bare_moves (map tokened_move c.append.new.self.items); owed = c.extend_from_slice-2.new.self.items; lent = xs }) (search rules)
    ∙ same_draft (record d { lent = c.args.self.now.lent.items ++ (if is_among c.args.self.now.lent.items c.args.variable then fields else []) }) c.in_ok-fields.next (c.args.self.now.next + c.args.count) (bare_moves (map tokened_move c.append.new.self.items)) (d.steps ++ (reads c.args.variable c.args.constructor fields ∷ map dups (chosen_of c.args.used fields))) c.extend_from_slice-2.new.self.items (c.args.self.now.owed.items ++ chosen_of c.args.used fields) d.uncalled d.uncalled d.splits d.splits d.ending d.ending
    c.in_ok-fields.ensures.next
    (steps_more c.args.self.now.steps.items c.append.new.self.items _ (reads_with c.args.variable c.args.constructor fields (chosen_of c.args.used fields)) c.in_ok-append.ensures.items
    (c.in_ok-steps.ensures ∙ (ap (λ fields. reads_with c.args.variable c.args.constructor fields c.deref-4.result.now) c.in_ok-fields.ensures.items ∙ ap (reads_with c.args.variable c.args.constructor (numbers_from c.args.self.now.next c.args.count)) (c.deref-4.ensures.value ∙ (c.in_ok-given.ensures ∙ ap (chosen_of c.args.used) (c.deref.ensures.value ∙ c.in_ok-fields.ensures.items)))))
    ∙ ap (λ moves. d.steps ++ moves) (bare_reads c.args.variable c.args.constructor fields (chosen_of c.args.used fields)))
    (search rules)
    refl refl refl
