use Rattle.std.proofs.Common.{[], ap, subst, sym, ◌∙◌, ◌∷◌}
use Rattle.kk_emitter.proofs.DraftChanges.{back_more}
use Rattle.kk_emitter.proofs.EmitterCalls.{entered_works}
use Rattle.kk_emitter.proofs.EmitterViews.{going_now, seen, sound_then, written}
use Rattle.kk_emitter.proofs.TokenDraftBranches.{entered_keeps, tokens_left}
use Rattle.kk_emitter.specs.Drafts.{entered}
use Rattle.kk_emitter.specs.Emissions.{counted_of, tokens_of}
use Rattle.kk_emitter.specs.TokenDrafts.{tokens_entered}
use Rattle.kk_emitter.specs.Works.{items_of, left_in}
use Rattle.kk_emitter.specs.Drafts.{AreNewest}
use Rattle.kk_emitter.proofs.emitter.Emitter.next_arm.Goals as goal

pub invariant_of-self : goal.invariant_of-self
invariant_of-self c =
    let d = counted_of c.args.self.now in
    let t = tokens_of c.args.self.now in
    let was = sound_then c.self.view_is c.self.invariant in
    let now = seen c.self.view_is entered c.enter.new.self c.enter.ensures.ok in
    let going = going_now c.self.view_is c.if-not-self.true in (
      entered_works d _ going c.requires.between now was.0,
      entered_keeps d _ t _ was.1 (λ other. going) c.requires.between c.args.arms.now.depth _ _ (λ other. subst (AreNewest d.splits c.args.arms.now.depth) (ap left_in c.in_ok-variables.ensures.items ∙ back_more items_of c.pop.new.self.items c.in_ok-variables.variables []) (c.requires.newest going))
          (λ other. now) (written c.self.view_is tokens_entered c.enter.new.self c.enter.ensures.tokens),
    )

pub returns-clause-left : goal.returns-clause-left
returns-clause-left c =
    ap left_in c.in_ok-variables.ensures.items ∙ back_more items_of c.pop.new.self.items c.in_ok-variables.variables []

pub returns-clause-slots : goal.returns-clause-slots
returns-clause-slots c =
    let d = counted_of c.args.self.now in
    let t = tokens_of c.args.self.now in
    let was = sound_then c.self.view_is c.self.invariant in
    λ going.
    let left = tokens_left d.splits t.splits c.args.arms.now.depth _ _ (left_in c.args.arms.now.spare.items) (was.1 going).splits (subst (AreNewest d.splits c.args.arms.now.depth) (ap left_in c.in_ok-variables.ensures.items ∙ back_more items_of c.pop.new.self.items c.in_ok-variables.variables []) (c.requires.newest going)) (c.requires.tokens going) in
    let both = c.next_of-spare.ensures left.0 left.1.0 left.1.1 in
    left.1.1 ∙ (ap (λ x. x ∷ left.1.0) (sym both.0) ∙ ap (λ xs. c.next_of-spare.result.items ∷ xs) (sym both.1))
