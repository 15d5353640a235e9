use Rattle.std.proofs.Common.{◌≡◌, ◌≤◌}
use Rattle.kk_counted.specs.TokenedCodes.{Tokened}
use Rattle.kk_counted.specs.TokenedForms.{put_steps}
use Rattle.kk_reuse.specs.Pairing.{moves_up}
use Rattle.kk_reuse.proofs.slots.move_up.Given as goal

abbrev pub invariant-down : goal.invariant-down
invariant-down l =
    ((rest : Tokened) → put_steps l.steps.items (moves_up l.by l.from rest) ≡ put_steps l.initial.steps.items
    (moves_up l.by l.tokens rest))
    × (l.from ≤ l.tokens)

abbrev pub decreases-down : goal.decreases-down
decreases-down l = l.from
