use Rattle.std.proofs.Common.{map, ap, sym, ◌∙◌}
use Rattle.kk_counted.specs.CountedForms.{step_move}
use Rattle.kk_reuse.specs.Following.{may_make}
use Rattle.kk_reuse.specs.PairedForms.{moves_may_make}
use Rattle.kk_reuse.proofs.Walks.{block_may_make}
use Rattle.kk_reuse.proofs.following.+may_make.Goals as goal

pub may_make-returns : goal.may_make-returns
may_make-returns t c =
    c.steps_may_make.ensures
    ∙ ap (λ steps. moves_may_make c.last_may_make.result (map step_move steps)) c.deref.ensures.value
    ∙ ap (λ makes. moves_may_make makes (map step_move c.args.block.now.steps.items)) c.last_may_make.ensures
    ∙ sym (block_may_make c.args.behind c.args.block.now)
