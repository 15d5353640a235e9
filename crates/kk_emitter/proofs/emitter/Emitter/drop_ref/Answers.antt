use Rattle.std.proofs.Common.{[], ◌∷◌}
use Rattle.kk_counted.specs.TokenedForms.{TokenedMove}
use Rattle.kk_emitter.proofs.EmitterCalls.{dropped_works}
use Rattle.kk_emitter.proofs.EmitterViews.{going_now, seen, sound_same, sound_then, written}
use Rattle.kk_emitter.proofs.TokenDraftChanges.{drop_keeps}
use Rattle.kk_emitter.specs.Drafts.{dropped}
use Rattle.kk_emitter.specs.Emissions.{counted_of, tokens_of}
use Rattle.kk_emitter.specs.TokenDrafts.{adds}
use Rattle.kk_emitter.proofs.emitter.Emitter.drop_ref.Goals as goal

pub invariant_of-self : goal.invariant_of-self
invariant_of-self c =
    sound_same c.self.view_is c.give_up.new.self c.in_default.ensures.err c.in_default.ensures.unwritten c.self.invariant

pub returns-in_default-clause-err : goal.returns-in_default-clause-err
returns-in_default-clause-err c =
    seen c.self.view_is (λ d. d) c.give_up.new.self c.in_default.ensures.err

pub invariant_of-self-2 : goal.invariant_of-self-2
invariant_of-self-2 c =
    let d = counted_of c.args.self.now in
    let t = tokens_of c.args.self.now in
    let was = sound_then c.self.view_is c.self.invariant in
    let now = seen c.self.view_is (λ d. dropped d c.args.owed.variable) c.give_up.new.self c.in-Ok.ensures.ok in (
      dropped_works d _ c.args.owed.emitter c.args.owed.variable (going_now c.self.view_is c.if-self.false) c.requires.writes c.requires.owns now was.0,
      drop_keeps was.1 c.requires.writes c.args.owed.variable now (written c.self.view_is (λ t. adds t (TokenedMove.drops c.args.owed.variable ∷ [])) c.give_up.new.self c.in-Ok.ensures.tokens),
    )

pub returns-clause-ok : goal.returns-clause-ok
returns-clause-ok c =
    seen c.self.view_is (λ d. dropped d c.args.owed.variable) c.give_up.new.self c.in-Ok.ensures.ok
