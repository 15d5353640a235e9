use Rattle.std.proofs.Common.{ap, ◌∙◌}
use Rattle.kk_counted.specs.InstancePositions.{positions_in}
use Rattle.kk_counted.specs.TokenedForms.{TokenedMove}
use Rattle.kk_emitter.proofs.EmitterCalls.{called_fits, computed_works}
use Rattle.kk_emitter.proofs.EmitterViews.{going_now, next_now, seen, sound_same, sound_then, used_same, written}
use Rattle.kk_emitter.proofs.TokenDraftChanges.{call_keeps}
use Rattle.kk_emitter.specs.Drafts.{Draft, computed, used_in}
use Rattle.kk_emitter.specs.Emissions.{Emission, counted_of, tokens_of}
use Rattle.kk_emitter.specs.TokenDrafts.{adds, under_holds}
use Rattle.kk_emitter.specs.Works.{used_at}
use Rattle.kk_syntax.specs.declared.program.Form.TheVariants.{Call}
use Rattle.kk_emitter.proofs.emitter.Emitter.called.Goals as goal

pub invariant_of-self : goal.invariant_of-self
invariant_of-self c =
    sound_same c.self.view_is c.call.new.self c.in_default.ensures.err c.in_default.ensures.unwritten c.self.invariant

pub returns-in_default-clause-err : goal.returns-in_default-clause-err
returns-in_default-clause-err c =
    seen c.self.view_is (λ d. d) c.call.new.self c.in_default.ensures.err

pub invariant_of-self-2 : goal.invariant_of-self-2
invariant_of-self-2 c =
    let d = counted_of c.args.self.now in
    let t = tokens_of c.args.self.now in
    let was = sound_then c.self.view_is c.self.invariant in
    let now = seen c.self.view_is (λ d. computed d (Call c.args.instance) c.deref.result.now (used_at c.parameters-parameters.result.now c.deref.result.now)) c.call.new.self c.in-Ok.ensures.ok
    ∙ (ap (λ xs. computed (counted_of c.args.self.now) (Call c.args.instance) xs (used_at c.parameters-parameters.result.now xs)) c.deref.ensures.value ∙ ap (computed (counted_of c.args.self.now) (Call c.args.instance) c.args.arguments.items) (used_same (positions_in c.self.inside.shape.now.instances.items) c.args.instance c.args.arguments.items c.parameters-parameters.result.now c.parameters-parameters.ensures ∙ ap (λ (e : Emission). used_in (counted_of e) c.args.instance c.args.arguments.items) c.self.view_is)) in (
      computed_works d _ (Call c.args.instance) c.args.arguments.items (used_in d c.args.instance c.args.arguments.items) (going_now c.self.view_is c.if-self.false) c.requires.writes c.requires.owns (called_fits d c.args.instance c.args.arguments.items c.requires.takes c.requires.lends) now was.0,
      call_keeps was.1 c.requires.writes c.args.instance c.args.arguments.items (used_in d c.args.instance c.args.arguments.items) now
          (written c.self.view_is (λ t. adds t (under_holds t.spare (TokenedMove.computes c.self.inside.work.next (Call c.args.instance) c.deref.result.now t.spare))) c.call.new.self c.in-Ok.ensures.tokens
          ∙ (ap (λ xs. adds t (under_holds t.spare (TokenedMove.computes c.self.inside.work.next (Call c.args.instance) xs t.spare))) c.deref.ensures.value ∙ ap (λ (e : Emission). adds t (under_holds t.spare (TokenedMove.computes e.work.next (Call c.args.instance) c.args.arguments.items t.spare))) c.self.view_is)),
    )

pub returns-clause-ok : goal.returns-clause-ok
returns-clause-ok c =
    seen c.self.view_is (λ d. computed d (Call c.args.instance) c.deref.result.now (used_at c.parameters-parameters.result.now c.deref.result.now)) c.call.new.self c.in-Ok.ensures.ok
    ∙ (ap (λ xs. computed (counted_of c.args.self.now) (Call c.args.instance) xs (used_at c.parameters-parameters.result.now xs)) c.deref.ensures.value ∙ ap (computed (counted_of c.args.self.now) (Call c.args.instance) c.args.arguments.items) (used_same (positions_in c.self.inside.shape.now.instances.items) c.args.instance c.args.arguments.items c.parameters-parameters.result.now c.parameters-parameters.ensures ∙ ap (λ (e : Emission). used_in (counted_of e) c.args.instance c.args.arguments.items) c.self.view_is))

pub returns-clause-owed : goal.returns-clause-owed
returns-clause-owed c = (
  c.of.ensures.emitter ∙ ap (λ (d : Draft). d.instance) (seen c.self.view_is (λ d. computed d (Call c.args.instance) c.deref.result.now (used_at c.parameters-parameters.result.now c.deref.result.now)) c.call.new.self c.in-Ok.ensures.ok
      ∙ (ap (λ xs. computed (counted_of c.args.self.now) (Call c.args.instance) xs (used_at c.parameters-parameters.result.now xs)) c.deref.ensures.value ∙ ap (computed (counted_of c.args.self.now) (Call c.args.instance) c.args.arguments.items) (used_same (positions_in c.self.inside.shape.now.instances.items) c.args.instance c.args.arguments.items c.parameters-parameters.result.now c.parameters-parameters.ensures ∙ ap (λ (e : Emission). used_in (counted_of e) c.args.instance c.args.arguments.items) c.self.view_is))),
  c.of.ensures.variable ∙ next_now c.self.view_is c.in-Ok.variable c.in-Ok.ensures.variable,
)
