use Rattle.std.proofs.Common.{[], ap, refl, ◌++◌, ◌∙◌, ◌∷◌}
use Rattle.kk_counted.proofs.TokenedViews.{dup_step}
use Rattle.kk_counted.specs.CountedForms.{dups}
use Rattle.kk_counted.specs.TokenedForms.{TokenedMove}
use Rattle.kk_emitter.proofs.DraftChanges.{put_is, wrote_is}
use Rattle.kk_emitter.proofs.work.Work.dup.Goals as goal

pub returns-clause-ok : goal.returns-clause-ok
returns-clause-ok c =
    λ positions counts marks. wrote_is positions counts marks c.args.self.now c.push.new.self c.push_reserved.new.self _ (TokenedMove.dups c.args.variable ∷ []) (dups c.args.variable) (c.args.self.now.owed.items ++ c.args.variable ∷ []) c.in_ok-push.ensures.items (ap (λ move. move ∷ []) (dup_step c.args.variable)) refl
    (c.push_reserved.ensures.items ∙ ap (λ xs. xs ++ c.args.variable ∷ []) c.reserve.ensures.items)

pub returns-clause-tokens : goal.returns-clause-tokens
returns-clause-tokens c =
    put_is c.args.self.now c.push.new.self _ (TokenedMove.dups c.args.variable ∷ []) c.in_ok-push.ensures.items (ap (λ move. move ∷ []) (dup_step c.args.variable))
