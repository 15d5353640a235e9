use Rattle.std.proofs.Common.{◌≡◌}
use Rattle.kk_counted.specs.TokenedCodes.{Tokened}
use Rattle.kk_counted.specs.TokenedForms.{put_steps}
use Rattle.kk_reuse.specs.Pairing.{frees}
use Rattle.kk_reuse.proofs.slots.free_all.Given as goal

abbrev pub invariant-down : goal.invariant-down
invariant-down l =
    (rest : Tokened) → put_steps l.steps.items (frees l.slot rest) ≡ put_steps l.initial.steps.items (frees l.tokens rest)

abbrev pub decreases-down : goal.decreases-down
decreases-down l = l.slot
