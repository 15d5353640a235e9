use Rattle.std.specs.Prelude.{is_some}
use Rattle.kk_emitter.proofs.EmitterCalls.{ended_works}
use Rattle.kk_emitter.proofs.EmitterViews.{going_now, seen, sound_then, written}
use Rattle.kk_emitter.proofs.TokenDraftBranches.{ended_value_keeps}
use Rattle.kk_emitter.specs.Drafts.{ended_by_value}
use Rattle.kk_emitter.specs.Emissions.{counted_of, tokens_of}
use Rattle.kk_emitter.specs.TokenDrafts.{tokened_end, tokens_ended_in}
use Rattle.kk_emitter.proofs.emitter.Emitter.end_by_value.Goals as goal

pub invariant_of-self : goal.invariant_of-self
invariant_of-self c =
    let d = counted_of c.args.self.now in
    let t = tokens_of c.args.self.now in
    let was = sound_then c.self.view_is c.self.invariant in
    let going = going_now c.self.view_is c.if-self.false in
    let now = seen c.self.view_is (λ d. ended_by_value d c.args.owed.variable) c.end_arm_by_value.new.self c.in-Ok.ensures.ok in (
      ended_works d _ c.args.owed.emitter c.args.owed.variable going c.requires.inside c.requires.arm c.requires.only now was.0,
      ended_value_keeps d _ t _ c.args.owed.variable was.1 c.requires.inside c.requires.arm c.requires.can (λ other. going) now
          (written c.self.view_is (λ t. tokens_ended_in t (tokened_end t.ending c.args.owed.variable) (is_some t.ending) t.splits) c.end_arm_by_value.new.self c.in-Ok.ensures.tokens),
    )
