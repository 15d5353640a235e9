use Rattle.std.proofs.Common.{◌∷◌, ◌++◌, [], ap, ◌∙◌}
use Rattle.kk_meaning.proofs.resume.with_last.Goals as goal

pub returns : goal.returns
returns c = c.in_ok-push.ensures.items ∙ ap (λ l. l ++ c.args.last ∷ []) c.in_ok-all.ensures.items
