use Rattle.std.proofs.Common.{[], ◌∷◌, ap, ◌∙◌}
use Rattle.kk_emitter.specs.Drafts.{ended_by_call}
use Rattle.counted_tests.proofs.FunctionMarks.{innermost_ends}
use Rattle.counted_tests.proofs.branching.innermost.Goals as goal

pub finished-requires-clause-marked : goal.finished-requires-clause-marked
finished-requires-clause-marked c =
    innermost_ends _ (c.in_ok-arms.ensures.ok ∙ ap (λ d. ended_by_call d 0 (1 ∷ [])) c.in_ok-debts.ensures.ok)
