use Rattle.std.proofs.Common.{[], ap, true, ◌∙◌}
use Rattle.kk_counted.proofs.TokenedViews.{tail_call_end}
use Rattle.kk_counted.specs.BareForms.{bare}
use Rattle.kk_emitter.specs.Drafts.{ended_in}
use Rattle.kk_emitter.specs.Works.{back_to_front, draft, split_of}
use Rattle.kk_emitter.proofs.DraftChanges.{on_ok}
use Rattle.kk_emitter.proofs.work.Work.end_arm_by_call.Goals as goal

pub returns-clause-ok : goal.returns-clause-ok
returns-clause-ok c =
    on_ok c.end_arm.result _ _ (λ becomes positions counts marks. becomes positions counts marks ∙ ap (λ code. ended_in (draft positions counts marks c.args.self.now) (bare code) true (back_to_front split_of c.args.self.now.forks.items [])) (tail_call_end c.args.instance c.args.arguments)) c.end_arm.ensures.ok
