use Rattle.std.proofs.Common.{◌∷◌, sym, ap, ◌∙◌}
use Rattle.kk_counted.specs.CountedForms.{step_move}
use Rattle.kk_fuse.specs.FusedForms.{backwards, put_fused}
use Rattle.kk_fuse.proofs.Forms.{pushed}
use Rattle.kk_fuse.proofs.fuse.put_fused.Goals as goal

pub returns-in_ok-push-in-None : goal.returns-in_ok-push-in-None
returns-in_ok-push-in-None c =
    pushed c.args.made.now.items c.push.new.self.items c.args.step c.in_ok-push-in-None.ensures.items
    ∙ ap (λ steps. step_move c.args.step ∷ backwards steps) (sym c.deref.ensures.value)
    ∙ sym c.in-None.ensures.none ∙ ap (λ steps. put_fused (step_move c.args.step) (backwards steps)) c.deref.ensures.value
