use Rattle.std.proofs.Common.{◌≡◌}
use Rattle.kk_counted.specs.TokenedCodes.{Tokened}
use Rattle.kk_counted.specs.TokenedForms.{put_steps}
use Rattle.kk_reuse.specs.Pairing.{holds}
use Rattle.kk_reuse.proofs.slots.hold_all.Given as goal

abbrev pub invariant-loop-slot : goal.invariant-loop-slot
invariant-loop-slot l =
    (rest : Tokened) → put_steps l.steps.items rest ≡ put_steps l.initial.steps.items (holds l.slot rest)
