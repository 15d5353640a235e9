use Rattle.std.proofs.Common.{[], ap, ◌∙◌, ◌∷◌}
use Rattle.kk_counted.specs.TokenedForms.{TokenedMove}
use Rattle.kk_emitter.proofs.EmitterCalls.{all_used, computed_works, constructed_fits}
use Rattle.kk_emitter.proofs.EmitterViews.{going_now, next_now, seen, sound_same, sound_then, written}
use Rattle.kk_emitter.proofs.TokenDraftChanges.{construct_keeps}
use Rattle.kk_emitter.specs.Drafts.{Draft, computed}
use Rattle.kk_emitter.specs.Emissions.{Emission, counted_of, tokens_of}
use Rattle.kk_emitter.specs.TokenDrafts.{adds}
use Rattle.kk_emitter.specs.Works.{used_at}
use Rattle.kk_syntax.specs.declared.program.Form.TheVariants.{Construct}
use Rattle.kk_emitter.proofs.emitter.Emitter.construct.Goals as goal

pub invariant_of-self : goal.invariant_of-self
invariant_of-self c =
    sound_same c.self.view_is c.compute.new.self c.in_default.ensures.err c.in_default.ensures.unwritten c.self.invariant

pub returns-in_default-clause-err : goal.returns-in_default-clause-err
returns-in_default-clause-err c =
    seen c.self.view_is (λ d. d) c.compute.new.self c.in_default.ensures.err

pub invariant_of-self-2 : goal.invariant_of-self-2
invariant_of-self-2 c =
    let d = counted_of c.args.self.now in
    let t = tokens_of c.args.self.now in
    let was = sound_then c.self.view_is c.self.invariant in
    let now = seen c.self.view_is (λ d. computed d (Construct c.args.constructor) c.deref.result.now (used_at [] c.deref.result.now)) c.compute.new.self c.in-Ok.ensures.ok
    ∙ (ap (λ xs. computed (counted_of c.args.self.now) (Construct c.args.constructor) xs (used_at [] xs)) c.deref.ensures.value ∙ ap (computed (counted_of c.args.self.now) (Construct c.args.constructor) c.args.debts.variables.items) (all_used c.args.debts.variables.items)) in (
      computed_works d _ (Construct c.args.constructor) c.args.debts.variables.items c.args.debts.variables.items (going_now c.self.view_is c.if-self.false) c.requires.writes (λ going. (c.requires.owns going).1) (constructed_fits d c.args.constructor c.args.debts.variables.items) now was.0,
      construct_keeps was.1 c.requires.writes c.args.constructor c.args.debts.variables.items now
          (written c.self.view_is (λ t. adds t (TokenedMove.computes c.self.inside.work.next (Construct c.args.constructor) c.deref.result.now t.spare ∷ [])) c.compute.new.self c.in-Ok.ensures.tokens
          ∙ (ap (λ xs. adds t (TokenedMove.computes c.self.inside.work.next (Construct c.args.constructor) xs t.spare ∷ [])) c.deref.ensures.value ∙ ap (λ (e : Emission). adds t (TokenedMove.computes e.work.next (Construct c.args.constructor) c.args.debts.variables.items t.spare ∷ [])) c.self.view_is)),
    )

pub returns-clause-ok : goal.returns-clause-ok
returns-clause-ok c =
    seen c.self.view_is (λ d. computed d (Construct c.args.constructor) c.deref.result.now (used_at [] c.deref.result.now)) c.compute.new.self c.in-Ok.ensures.ok
    ∙ (ap (λ xs. computed (counted_of c.args.self.now) (Construct c.args.constructor) xs (used_at [] xs)) c.deref.ensures.value ∙ ap (computed (counted_of c.args.self.now) (Construct c.args.constructor) c.args.debts.variables.items) (all_used c.args.debts.variables.items))

pub returns-clause-owed : goal.returns-clause-owed
returns-clause-owed c = (
  c.of.ensures.emitter ∙ ap (λ (d : Draft). d.instance) (seen c.self.view_is (λ d. computed d (Construct c.args.constructor) c.deref.result.now (used_at [] c.deref.result.now)) c.compute.new.self c.in-Ok.ensures.ok
      ∙ (ap (λ xs. computed (counted_of c.args.self.now) (Construct c.args.constructor) xs (used_at [] xs)) c.deref.ensures.value ∙ ap (computed (counted_of c.args.self.now) (Construct c.args.constructor) c.args.debts.variables.items) (all_used c.args.debts.variables.items))),
  c.of.ensures.variable ∙ next_now c.self.view_is c.in-Ok.variable c.in-Ok.ensures.variable,
)
