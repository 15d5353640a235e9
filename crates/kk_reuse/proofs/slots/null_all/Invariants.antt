use Rattle.std.proofs.Common.{◌≡◌}
use Rattle.kk_counted.specs.TokenedCodes.{Tokened}
use Rattle.kk_counted.specs.TokenedForms.{put_steps}
use Rattle.kk_reuse.specs.Pairing.{nulls}
use Rattle.kk_reuse.proofs.slots.null_all.Given as goal

abbrev pub invariant-down : goal.invariant-down
invariant-down l =
    (rest : Tokened) → put_steps l.steps.items (nulls l.slot rest) ≡ put_steps l.initial.steps.items (nulls l.tokens rest)

abbrev pub decreases-down : goal.decreases-down
decreases-down l = l.slot
