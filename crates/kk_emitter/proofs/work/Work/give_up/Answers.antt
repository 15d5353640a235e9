use Rattle.std.proofs.Common.{[], ap, refl, ◌∷◌}
use Rattle.kk_counted.proofs.TokenedViews.{drop_step}
use Rattle.kk_counted.specs.CountedForms.{drops}
use Rattle.kk_counted.specs.TokenedForms.{TokenedMove}
use Rattle.kk_counted.specs.VariableLists.{minus}
use Rattle.kk_emitter.proofs.DraftChanges.{put_is, wrote_is}
use Rattle.kk_emitter.proofs.work.Work.give_up.Goals as goal

pub returns-clause-ok : goal.returns-clause-ok
returns-clause-ok c =
    λ positions counts marks. wrote_is positions counts marks c.args.self.now c.push.new.self c.take_out.new.owed _ (TokenedMove.drops c.args.variable ∷ []) (drops c.args.variable) (minus c.args.variable c.args.self.now.owed.items) c.in_ok-push.ensures.items (ap (λ move. move ∷ []) (drop_step c.args.variable)) refl c.take_out.ensures.items

pub returns-clause-tokens : goal.returns-clause-tokens
returns-clause-tokens c =
    put_is c.args.self.now c.push.new.self _ (TokenedMove.drops c.args.variable ∷ []) c.in_ok-push.ensures.items (ap (λ move. move ∷ []) (drop_step c.args.variable))
