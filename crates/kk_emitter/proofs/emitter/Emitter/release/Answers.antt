use Rattle.std.proofs.Common.{subst, sym}
use Rattle.kk_counted.specs.TokenedForms.{TokenedMove}
use Rattle.kk_emitter.proofs.EmitterViews.{seen, sound_same, sound_then, written}
use Rattle.kk_emitter.proofs.TokenDraftChanges.{free_keeps}
use Rattle.kk_emitter.specs.Emissions.{counted_of, tokens_of}
use Rattle.kk_emitter.specs.TokenDrafts.{spends}
use Rattle.kk_emitter.specs.Emitting.{Works}
use Rattle.kk_emitter.proofs.emitter.Emitter.release.Goals as goal

pub invariant_of-self : goal.invariant_of-self
invariant_of-self c =
    sound_same c.self.view_is c.release.new.self c.release.ensures.same c.in_default.ensures.unwritten c.self.invariant

pub returns-in_default-clause-ok : goal.returns-in_default-clause-ok
returns-in_default-clause-ok c =
    seen c.self.view_is (λ d. d) c.release.new.self c.release.ensures.same

pub invariant_of-self-2 : goal.invariant_of-self-2
invariant_of-self-2 c =
    let d = counted_of c.args.self.now in
    let t = tokens_of c.args.self.now in
    let was = sound_then c.self.view_is c.self.invariant in
    let now = seen c.self.view_is (λ d. d) c.release.new.self c.release.ensures.same in (
      subst Works (sym now) was.0,
      free_keeps was.1 c.requires.writes c.args.spare.slot (λ going. (c.requires.has going).1) now (written c.self.view_is (λ t. spends t (TokenedMove.frees c.args.spare.slot) c.args.spare.slot) c.release.new.self c.in-Ok.ensures.tokens),
    )

pub returns-clause-ok : goal.returns-clause-ok
returns-clause-ok c =
    seen c.self.view_is (λ d. d) c.release.new.self c.release.ensures.same
