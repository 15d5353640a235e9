use Rattle.std.proofs.Common.{ℕ, List, [], ◌∷◌, ◌++◌, ap, ◌∙◌}
use Rattle.rv_lower.proofs.Functions.{from_to_up}
use Rattle.rv_lower.proofs.lowering.parameters.Goals as goal

pub loop-value-preserved : goal.loop-value-preserved
loop-value-preserved c = c.in_ok-push.ensures.items ∙ ap (λ (values : List ℕ). values ++ c.loop-value.value ∷ []) c.loop-value.invariant ∙ from_to_up c.loop-value.value
