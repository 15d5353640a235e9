use Rattle.std.proofs.Common.{List, [], ap, map, ◌∙◌, ◌∷◌}
use Rattle.std.proofs.lemmas.List.{append-nil}
use Rattle.kk_counted.proofs.TokenedViews.{free_step}
use Rattle.kk_counted.specs.TokenedForms.{TokenedMove, tokened_move}
use Rattle.kk_emitter.proofs.DraftChanges.{steps_more}
use Rattle.kk_emitter.proofs.TokenDraftChanges.{put_spent}
use Rattle.kk_emitter.specs.TokenDrafts.{bare_moves, spends}
use Rattle.kk_emitter.specs.Works.{draft, token_draft}
use Rattle.kk_counted.specs.CountedForms.{Move}
use Rattle.kk_emitter.proofs.work.Work.release.Goals as goal

pub returns-clause-same : goal.returns-clause-same
returns-clause-same c =
    λ positions counts marks. ap (λ (steps : List Move). record (draft positions counts marks c.args.self.now) { steps = steps })
    (steps_more c.args.self.now.steps.items c.push.new.self.items _ (TokenedMove.frees c.args.slot ∷ []) c.in_ok-push.ensures.items (ap (λ move. move ∷ []) (free_step c.args.slot)) ∙ append-nil (bare_moves (map tokened_move c.args.self.now.steps.items)))

pub returns-clause-tokens : goal.returns-clause-tokens
returns-clause-tokens c =
    put_spent c.args.self.now c.push.new.self c.take_slot.new.slots _ c.args.slot c.in_ok-push.ensures.items c.take_slot.ensures ∙ ap (λ move. spends (token_draft c.args.self.now) move c.args.slot) (free_step c.args.slot)
