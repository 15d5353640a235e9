use Rattle.std.proofs.Common.{◌≡◌, map, drop}
use Rattle.std.specs.Prelude.{max}
use Rattle.kk_counted.specs.TokenLowerable.{slots_in_arms}
use Rattle.kk_counted.specs.TokenedForms.{tokened_code, tokened_move, tokened_arms}
use Rattle.rv_cells.specs.TokenedMarking.{slots_of_steps}
use Rattle.rv_cells.proofs.slots.+slots.Given as goal

abbrev pub invariant-slots_of_steps-loop-step : goal.invariant-slots_of_steps-loop-step
invariant-slots_of_steps-loop-step l =
    max l.most (slots_of_steps (map tokened_move (drop l.step-index l.steps))) ≡ slots_of_steps (map tokened_move l.steps)

abbrev pub invariant-slots_of_arms-loop-arm : goal.invariant-slots_of_arms-loop-arm
invariant-slots_of_arms-loop-arm l =
    max l.most (slots_in_arms (tokened_arms (map tokened_code (drop l.arm-index l.arms))))
    ≡ slots_in_arms (tokened_arms (map tokened_code l.arms))
