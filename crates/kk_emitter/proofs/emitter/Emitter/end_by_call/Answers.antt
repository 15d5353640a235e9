use Rattle.std.proofs.Common.{ap, true, ◌∙◌}
use Rattle.kk_counted.specs.TokenedCodes.{Tokened}
use Rattle.kk_emitter.proofs.DraftChanges.{same_end}
use Rattle.kk_emitter.proofs.EmitterCalls.{call_works}
use Rattle.kk_emitter.proofs.EmitterViews.{going_now, seen, sound_then, written}
use Rattle.kk_emitter.proofs.TokenDraftBranches.{ended_call_keeps}
use Rattle.kk_emitter.specs.Drafts.{ended_by_call}
use Rattle.kk_emitter.specs.Emissions.{Emission, counted_of, tokens_of}
use Rattle.kk_emitter.specs.TokenDrafts.{tokens_ended_in}
use Rattle.kk_emitter.proofs.emitter.Emitter.end_by_call.Goals as goal

pub end_arm_by_call-requires : goal.end_arm_by_call-requires
end_arm_by_call-requires c =
    same_end c.self.inside.work.ending (ap (λ (e : Emission). (counted_of e).ending) c.self.view_is ∙ (c.requires.writes (going_now c.self.view_is c.if-self.false)).1)

pub invariant_of-self : goal.invariant_of-self
invariant_of-self c =
    let d = counted_of c.args.self.now in
    let t = tokens_of c.args.self.now in
    let was = sound_then c.self.view_is c.self.invariant in
    let going = going_now c.self.view_is c.if-self.false in
    let now = seen c.self.view_is (λ d. ended_by_call d c.args.instance c.args.arguments.items) c.end_arm_by_call.new.self c.in-Ok.ensures.ok in (
      call_works d _ c.args.instance c.args.arguments.items going c.requires.writes c.requires.takes c.requires.ends c.requires.arm now was.0,
      ended_call_keeps d _ t _ c.args.instance c.args.arguments.items was.1 c.requires.writes c.requires.arm c.requires.can (λ other. going) now
          (written c.self.view_is (λ t. tokens_ended_in t (Tokened.tail_call c.args.instance c.args.arguments.items) true t.splits) c.end_arm_by_call.new.self c.in-Ok.ensures.tokens),
    )
