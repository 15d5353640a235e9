use Rattle.std.proofs.Common.{ap, ◌∙◌}
use Rattle.kk_emitter.proofs.EmitterCalls.{joined_instance, joined_works}
use Rattle.kk_emitter.proofs.EmitterViews.{going_now, next_now, seen, sound_then, written}
use Rattle.kk_emitter.proofs.TokenDraftJoins.{joined_keeps}
use Rattle.kk_emitter.specs.Drafts.{Draft, joined}
use Rattle.kk_emitter.specs.Emissions.{Emission, counted_of, tokens_of}
use Rattle.kk_emitter.specs.TokenDrafts.{tokens_joined}
use Rattle.kk_emitter.proofs.emitter.Emitter.join.Goals as goal

pub invariant_of-self-2 : goal.invariant_of-self-2
invariant_of-self-2 c =
    let d = counted_of c.args.self.now in
    let t = tokens_of c.args.self.now in
    let was = sound_then c.self.view_is c.self.invariant in
    let going = going_now c.self.view_is c.if-self.false in
    let now = seen c.self.view_is (λ d. joined d) c.join.new.self c.in-Ok.ensures.ok in (
      joined_works d _ c.args.arms.depth going c.requires.between c.requires.newest now was.0,
      joined_keeps d _ t _ c.args.arms.depth was.1 (λ other. going) c.requires.between c.requires.newest now
          (written c.self.view_is (λ t. tokens_joined t c.self.inside.work.next) c.join.new.self c.in-Ok.ensures.tokens ∙ ap (λ (e : Emission). tokens_joined t e.work.next) c.self.view_is),
    )

pub returns-clause-owed : goal.returns-clause-owed
returns-clause-owed c =
    (c.of.ensures.emitter ∙ (ap (λ (d : Draft). d.instance) (seen c.self.view_is (λ d. joined d) c.join.new.self c.in-Ok.ensures.ok) ∙ joined_instance (counted_of c.args.self.now)), c.of.ensures.variable ∙ next_now c.self.view_is c.in-Ok.variable c.in-Ok.ensures.variable)

pub returns-clause-emitter : goal.returns-clause-emitter
returns-clause-emitter c =
    ap (λ (d : Draft). d.instance) (seen c.self.view_is (λ d. joined d) c.join.new.self c.in-Ok.ensures.ok) ∙ joined_instance (counted_of c.args.self.now)
