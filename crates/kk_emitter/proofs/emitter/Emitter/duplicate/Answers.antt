use Rattle.std.proofs.Common.{[], ap, ◌∙◌, ◌∷◌}
use Rattle.kk_counted.specs.TokenedForms.{TokenedMove}
use Rattle.kk_emitter.proofs.EmitterCalls.{duplicated_works}
use Rattle.kk_emitter.proofs.EmitterViews.{fell_now, going_now, seen, sound_then, written}
use Rattle.kk_emitter.proofs.TokenDraftChanges.{dup_keeps}
use Rattle.kk_emitter.specs.Drafts.{Draft, duplicated}
use Rattle.kk_emitter.specs.Emissions.{counted_of, tokens_of}
use Rattle.kk_emitter.specs.TokenDrafts.{adds}
use Rattle.kk_emitter.proofs.emitter.Emitter.duplicate.Goals as goal

pub returns-in_default-clause-err : goal.returns-in_default-clause-err
returns-in_default-clause-err c =
    fell_now c.self.view_is c.dup.new.self c.in_default.ensures.err

pub invariant_of-self-2 : goal.invariant_of-self-2
invariant_of-self-2 c =
    let d = counted_of c.args.self.now in
    let t = tokens_of c.args.self.now in
    let was = sound_then c.self.view_is c.self.invariant in
    let now = seen c.self.view_is (λ d. duplicated d c.args.variable) c.dup.new.self c.in-Ok.ensures.ok in (
      duplicated_works d _ c.args.variable (going_now c.self.view_is c.if-self.false) c.requires.writes c.requires.there now was.0,
      dup_keeps was.1 c.requires.writes c.args.variable now (written c.self.view_is (λ t. adds t (TokenedMove.dups c.args.variable ∷ [])) c.dup.new.self c.in-Ok.ensures.tokens),
    )

pub returns-clause-ok : goal.returns-clause-ok
returns-clause-ok c =
    seen c.self.view_is (λ d. duplicated d c.args.variable) c.dup.new.self c.in-Ok.ensures.ok

pub returns-clause-owed : goal.returns-clause-owed
returns-clause-owed c =
    (c.of.ensures.emitter ∙ ap (λ (d : Draft). d.instance) (seen c.self.view_is (λ d. duplicated d c.args.variable) c.dup.new.self c.in-Ok.ensures.ok), c.of.ensures.variable)
