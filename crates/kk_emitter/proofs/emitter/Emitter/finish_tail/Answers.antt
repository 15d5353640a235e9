use Rattle.std.proofs.Common.{ap, ◌∙◌}
use Rattle.kk_counted.specs.TokenedCodes.{Tokened}
use Rattle.kk_emitter.proofs.EmitterCalls.{tail_body}
use Rattle.kk_emitter.proofs.EmitterViews.{going_now, sound_then}
use Rattle.kk_emitter.proofs.TokenDraftChanges.{called_function, called_marked}
use Rattle.kk_emitter.specs.Emissions.{Emission, counted_of, tokens_of}
use Rattle.kk_counted.specs.TokenedForms.{plug_tokened}
use Rattle.kk_emitter.proofs.emitter.Emitter.finish_tail.Goals as goal

pub returns-clause-function : goal.returns-clause-function
returns-clause-function c =
    let now = c.args.self in
    let going = going_now c.self.view_is c.if-work.false in
    let was = sound_then c.self.view_is c.self.invariant in
    called_function (counted_of now) (tokens_of now) _ c.args.instance c.args.arguments.items (was.1 going) (c.requires.none going) (c.requires.joined going) (c.requires.writes going).0 (c.requires.writes going).1
    (tail_body (counted_of now) c.args.instance c.args.arguments.items going c.requires.writes c.requires.joined c.requires.takes c.requires.ends was.0)
    (c.finish_by_call.ensures.parameters ∙ ap (λ (e : Emission). e.work.parameters) c.self.view_is)
    (c.finish_by_call.ensures.body ∙ ap (λ (e : Emission). plug_tokened (tokens_of e).moves (Tokened.tail_call c.args.instance c.args.arguments.items)) c.self.view_is)

pub returns-clause-marked : goal.returns-clause-marked
returns-clause-marked c =
    let now = c.args.self in
    let going = going_now c.self.view_is c.if-work.false in
    let was = sound_then c.self.view_is c.self.invariant in
    called_marked (counted_of now) (tokens_of now) _ c.args.instance c.args.arguments.items (was.1 going) (c.requires.marked going)
    (c.finish_by_call.ensures.parameters ∙ ap (λ (e : Emission). e.work.parameters) c.self.view_is)
    (c.finish_by_call.ensures.body ∙ ap (λ (e : Emission). plug_tokened (tokens_of e).moves (Tokened.tail_call c.args.instance c.args.arguments.items)) c.self.view_is)
