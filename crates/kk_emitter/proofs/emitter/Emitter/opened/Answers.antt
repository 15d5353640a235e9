use Rattle.std.proofs.Common.{ap, ◌∙◌}
use Rattle.kk_counted.specs.Spending.{numbers_from}
use Rattle.kk_counted.specs.TokenedForms.{opens_with}
use Rattle.kk_emitter.proofs.EmitterCalls.{unpacked_works}
use Rattle.kk_emitter.proofs.EmitterViews.{going_now, seen, sound_same, sound_then, written}
use Rattle.kk_emitter.proofs.TokenDraftChanges.{open_keeps}
use Rattle.kk_emitter.specs.Drafts.{Draft, chosen_of, opened}
use Rattle.kk_emitter.specs.Emissions.{Emission, counted_of, tokens_of}
use Rattle.kk_emitter.specs.TokenDrafts.{gains, next_slot}
use Rattle.kk_emitter.proofs.emitter.Emitter.opened.Goals as goal

pub invariant_of-self : goal.invariant_of-self
invariant_of-self c =
    sound_same c.self.view_is c.open.new.self c.in_default.ensures.err c.in_default.ensures.unwritten c.self.invariant

pub returns-in_default-clause-err : goal.returns-in_default-clause-err
returns-in_default-clause-err c =
    seen c.self.view_is (λ d. d) c.open.new.self c.in_default.ensures.err

pub invariant_of-self-2 : goal.invariant_of-self-2
invariant_of-self-2 c =
    let d = counted_of c.args.self.now in
    let t = tokens_of c.args.self.now in
    let was = sound_then c.self.view_is c.self.invariant in
    let now = seen c.self.view_is (λ d. opened d c.args.by_count c.args.owed.variable c.args.constructor c.field_count-count.result c.args.used) c.open.new.self c.in-Ok.ensures.ok in (
      unpacked_works d _ c.args.by_count c.args.owed.emitter c.args.owed.variable c.args.constructor _ c.args.used (going_now c.self.view_is c.if-self.false) c.requires.writes c.requires.owns now was.0,
      open_keeps was.1 c.requires.writes c.args.by_count c.args.owed.variable c.args.constructor c.args.used (now ∙ ap (λ m. opened d c.args.by_count c.args.owed.variable c.args.constructor m c.args.used) c.field_count-count.ensures)
          (written c.self.view_is (λ t. gains t (opens_with c.args.by_count c.args.owed.variable c.args.constructor (numbers_from c.self.inside.work.next c.field_count-count.result) (chosen_of c.args.used (numbers_from c.self.inside.work.next c.field_count-count.result)) (next_slot t.spare))) c.open.new.self c.in-Ok.ensures.tokens ∙ ap (λ fields. gains t (opens_with c.args.by_count c.args.owed.variable c.args.constructor fields (chosen_of c.args.used fields) (next_slot t.spare))) (ap (λ (e : Emission). numbers_from e.work.next c.field_count-count.result) c.self.view_is ∙ ap (numbers_from (counted_of c.args.self.now).next) c.field_count-count.ensures)),
    )

pub returns-clause-ok : goal.returns-clause-ok
returns-clause-ok c =
    seen c.self.view_is (λ d. opened d c.args.by_count c.args.owed.variable c.args.constructor c.field_count-count.result c.args.used) c.open.new.self c.in-Ok.ensures.ok ∙ ap (λ m. opened (counted_of c.args.self.now) c.args.by_count c.args.owed.variable c.args.constructor m c.args.used) c.field_count-count.ensures

pub returns-clause-given : goal.returns-clause-given
returns-clause-given c =
    let instance = ap (λ (d : Draft). d.instance) (seen c.self.view_is (λ d. opened d c.args.by_count c.args.owed.variable c.args.constructor c.field_count-count.result c.args.used) c.open.new.self c.in-Ok.ensures.ok) in
    (c.in-Ok.ensures.variables ∙ ap (chosen_of c.args.used) (ap (λ (e : Emission). numbers_from e.work.next c.field_count-count.result) c.self.view_is ∙ ap (numbers_from (counted_of c.args.self.now).next) c.field_count-count.ensures), (instance, (c.new.ensures.items, (instance, c.in-Ok.ensures.slot ∙ ap (λ (e : Emission). next_slot (tokens_of e).spare) c.self.view_is))))
