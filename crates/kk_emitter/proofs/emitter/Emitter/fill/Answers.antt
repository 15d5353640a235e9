use Rattle.std.proofs.Common.{[], ap, ◌∙◌, ◌∷◌}
use Rattle.kk_counted.specs.TokenedForms.{fills_with}
use Rattle.kk_emitter.proofs.EmitterCalls.{computed_works, constructed_fits}
use Rattle.kk_emitter.proofs.EmitterViews.{going_now, next_now, seen, sound_same, sound_then, written}
use Rattle.kk_emitter.proofs.TokenDraftChanges.{fill_keeps}
use Rattle.kk_emitter.specs.Drafts.{Draft, computed}
use Rattle.kk_emitter.specs.Emissions.{Emission, counted_of, tokens_of}
use Rattle.kk_emitter.specs.TokenDrafts.{spends}
use Rattle.kk_syntax.specs.Shapes.{without}
use Rattle.kk_syntax.specs.declared.program.Form.TheVariants.{Construct}
use Rattle.kk_emitter.proofs.emitter.Emitter.fill.Goals as goal

pub invariant_of-self : goal.invariant_of-self
invariant_of-self c =
    sound_same c.self.view_is c.fill.new.self c.in_default.ensures.err c.in_default.ensures.unwritten c.self.invariant

pub returns-in_default-clause-err : goal.returns-in_default-clause-err
returns-in_default-clause-err c =
    seen c.self.view_is (λ d. d) c.fill.new.self c.in_default.ensures.err

pub invariant_of-self-2 : goal.invariant_of-self-2
invariant_of-self-2 c =
    let d = counted_of c.args.self.now in
    let t = tokens_of c.args.self.now in
    let was = sound_then c.self.view_is c.self.invariant in
    let now = seen c.self.view_is (λ d. computed d (Construct c.args.constructor) c.deref.result.now c.deref.result.now) c.fill.new.self c.in-Ok.ensures.ok ∙ ap (λ xs. computed (counted_of c.args.self.now) (Construct c.args.constructor) xs xs) c.deref.ensures.value in (
      computed_works d _ (Construct c.args.constructor) c.args.debts.variables.items c.args.debts.variables.items (going_now c.self.view_is c.if-self.false) c.requires.writes (λ going. (c.requires.takes.0 going).1) (constructed_fits d c.args.constructor c.args.debts.variables.items) now was.0,
      fill_keeps was.1 c.requires.writes c.args.spare.slot c.args.constructor c.args.debts.variables.items c.args.kept.items c.requires.takes.1.1.1 (λ going. (c.requires.has going).1) c.requires.known now
          (written c.self.view_is (λ t. spends t (fills_with c.self.inside.work.next c.args.spare.slot c.args.constructor c.deref.result.now c.args.kept.items (without (c.args.spare.slot ∷ []) t.spare)) c.args.spare.slot) c.fill.new.self c.in-Ok.ensures.tokens
          ∙ (ap (λ xs. spends t (fills_with c.self.inside.work.next c.args.spare.slot c.args.constructor xs c.args.kept.items (without (c.args.spare.slot ∷ []) t.spare)) c.args.spare.slot) c.deref.ensures.value ∙ ap (λ (e : Emission). spends t (fills_with e.work.next c.args.spare.slot c.args.constructor c.args.debts.variables.items c.args.kept.items (without (c.args.spare.slot ∷ []) t.spare)) c.args.spare.slot) c.self.view_is)),
    )

pub returns-clause-ok : goal.returns-clause-ok
returns-clause-ok c =
    seen c.self.view_is (λ d. computed d (Construct c.args.constructor) c.deref.result.now c.deref.result.now) c.fill.new.self c.in-Ok.ensures.ok ∙ ap (λ xs. computed (counted_of c.args.self.now) (Construct c.args.constructor) xs xs) c.deref.ensures.value

pub returns-clause-owed : goal.returns-clause-owed
returns-clause-owed c =
    (c.of.ensures.emitter ∙ ap (λ (d : Draft). d.instance) (seen c.self.view_is (λ d. computed d (Construct c.args.constructor) c.deref.result.now c.deref.result.now) c.fill.new.self c.in-Ok.ensures.ok ∙ ap (λ xs. computed (counted_of c.args.self.now) (Construct c.args.constructor) xs xs) c.deref.ensures.value), c.of.ensures.variable ∙ next_now c.self.view_is c.in-Ok.variable c.in-Ok.ensures.variable)
