use Rattle.std.proofs.Common.{[], ap, ◌∙◌, ◌∷◌}
use Rattle.kk_counted.specs.TokenedForms.{TokenedMove}
use Rattle.kk_emitter.proofs.EmitterCalls.{all_used, computed_works, plain_fits}
use Rattle.kk_emitter.proofs.EmitterViews.{going_now, next_now, seen, sound_same, sound_then, written}
use Rattle.kk_emitter.proofs.TokenDraftChanges.{plain_keeps}
use Rattle.kk_emitter.specs.Drafts.{Draft, computed}
use Rattle.kk_emitter.specs.Emissions.{Emission, counted_of, tokens_of}
use Rattle.kk_emitter.specs.TokenDrafts.{adds}
use Rattle.kk_emitter.specs.Works.{used_at}
use Rattle.kk_emitter.proofs.emitter.Emitter.plain.Goals as goal

pub invariant_of-self : goal.invariant_of-self
invariant_of-self c =
    sound_same c.self.view_is c.compute.new.self c.in_default.ensures.err c.in_default.ensures.unwritten c.self.invariant

pub returns-in_default-clause-err : goal.returns-in_default-clause-err
returns-in_default-clause-err c =
    seen c.self.view_is (λ d. d) c.compute.new.self c.in_default.ensures.err

pub invariant_of-self-2 : goal.invariant_of-self-2
invariant_of-self-2 c =
    let d = counted_of c.args.self.now in
    let t = tokens_of c.args.self.now in
    let was = sound_then c.self.view_is c.self.invariant in
    let now = seen c.self.view_is (λ d. computed d c.args.form c.deref.result.now (used_at [] c.deref.result.now)) c.compute.new.self c.in-Ok.ensures.ok
    ∙ (ap (λ xs. computed (counted_of c.args.self.now) c.args.form xs (used_at [] xs)) c.deref.ensures.value ∙ ap (computed (counted_of c.args.self.now) c.args.form c.args.arguments.items) (all_used c.args.arguments.items)) in (
      computed_works d _ c.args.form c.args.arguments.items c.args.arguments.items (going_now c.self.view_is c.if-self.false) c.requires.writes c.requires.owns (plain_fits d c.args.form c.args.arguments.items c.requires.plain) now was.0,
      plain_keeps was.1 c.requires.writes c.args.form c.args.arguments.items c.requires.plain now
          (written c.self.view_is (λ t. adds t (TokenedMove.computes c.self.inside.work.next c.args.form c.deref.result.now t.spare ∷ [])) c.compute.new.self c.in-Ok.ensures.tokens
          ∙ (ap (λ xs. adds t (TokenedMove.computes c.self.inside.work.next c.args.form xs t.spare ∷ [])) c.deref.ensures.value ∙ ap (λ (e : Emission). adds t (TokenedMove.computes e.work.next c.args.form c.args.arguments.items t.spare ∷ [])) c.self.view_is)),
    )

pub returns-clause-ok : goal.returns-clause-ok
returns-clause-ok c =
    seen c.self.view_is (λ d. computed d c.args.form c.deref.result.now (used_at [] c.deref.result.now)) c.compute.new.self c.in-Ok.ensures.ok
    ∙ (ap (λ xs. computed (counted_of c.args.self.now) c.args.form xs (used_at [] xs)) c.deref.ensures.value ∙ ap (computed (counted_of c.args.self.now) c.args.form c.args.arguments.items) (all_used c.args.arguments.items))

pub returns-clause-owed : goal.returns-clause-owed
returns-clause-owed c = (
  c.of.ensures.emitter ∙ ap (λ (d : Draft). d.instance) (seen c.self.view_is (λ d. computed d c.args.form c.deref.result.now (used_at [] c.deref.result.now)) c.compute.new.self c.in-Ok.ensures.ok
      ∙ (ap (λ xs. computed (counted_of c.args.self.now) c.args.form xs (used_at [] xs)) c.deref.ensures.value ∙ ap (computed (counted_of c.args.self.now) c.args.form c.args.arguments.items) (all_used c.args.arguments.items))),
  c.of.ensures.variable ∙ next_now c.self.view_is c.in-Ok.variable c.in-Ok.ensures.variable,
)
