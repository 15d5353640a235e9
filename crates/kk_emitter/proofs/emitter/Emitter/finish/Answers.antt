use Rattle.std.proofs.Common.{ap, ◌∙◌}
use Rattle.kk_emitter.proofs.EmitterCalls.{finished_body}
use Rattle.kk_emitter.proofs.EmitterViews.{going_now, sound_then}
use Rattle.kk_emitter.proofs.TokenDraftChanges.{given_function, given_marked}
use Rattle.kk_emitter.specs.Emissions.{Emission, counted_of, tokens_of}
use Rattle.kk_emitter.specs.TokenDrafts.{tokens_closed}
use Rattle.kk_emitter.proofs.emitter.Emitter.finish.Goals as goal

pub returns-clause-function : goal.returns-clause-function
returns-clause-function c =
    let now = c.args.self in
    let going = going_now c.self.view_is c.if-work.false in
    let was = sound_then c.self.view_is c.self.invariant in
    given_function (counted_of now) (tokens_of now) _ c.args.owed.variable (was.1 going) (c.requires.none going) (c.requires.joined going) (c.requires.inside going)
    (finished_body (counted_of now) c.args.owed.emitter c.args.owed.variable going c.requires.inside c.requires.joined c.requires.called c.requires.only was.0)
    (c.finish.ensures.parameters ∙ ap (λ (e : Emission). e.work.parameters) c.self.view_is)
    (c.finish.ensures.body ∙ ap (λ (e : Emission). tokens_closed (tokens_of e) c.args.owed.variable) c.self.view_is)

pub returns-clause-marked : goal.returns-clause-marked
returns-clause-marked c =
    let now = c.args.self in
    let going = going_now c.self.view_is c.if-work.false in
    let was = sound_then c.self.view_is c.self.invariant in
    given_marked (counted_of now) (tokens_of now) _ c.args.owed.variable (was.1 going) (c.requires.marked going)
    (c.finish.ensures.parameters ∙ ap (λ (e : Emission). e.work.parameters) c.self.view_is)
    (c.finish.ensures.body ∙ ap (λ (e : Emission). tokens_closed (tokens_of e) c.args.owed.variable) c.self.view_is)
