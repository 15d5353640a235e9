use Rattle.std.proofs.Common.{◌-◌, ◌∷◌, [], ◌++◌, append_assoc, ap, arith, sym, ◌∙◌}
use Rattle.kk_reuse.specs.Pairing.{slots_below}
use Rattle.kk_reuse.proofs.Steps.{slots_next}
use Rattle.kk_reuse.proofs.slots.slots_below.Goals as goal

pub down-preserved : goal.down-preserved
down-preserved c =
    let next = c.down.left - 1 in
    ap (λ slots. slots ++ slots_below next) c.in_ok-push.ensures.items
    ∙ append_assoc c.down.slots.items (next ∷ []) (slots_below next)
    ∙ ap (λ slots. c.down.slots.items ++ slots) (sym (slots_next c.down.left next (omega arith))) ∙ c.down.invariant
