use Rattle.std.proofs.Common.{◌≡◌, ◌&&◌, map, drop}
use Rattle.kk_counted.specs.TokenedForms.{tokened_code, tokened_move, tokened_arms}
use Rattle.rv_cells.specs.Standings.{keeps_in_arms, keeps_steps}
use Rattle.rv_cells.proofs.standing.+keeps.Given as goal

abbrev pub invariant-keeps_steps-loop-step : goal.invariant-keeps_steps-loop-step
invariant-keeps_steps-loop-step l =
    (l.keeps && keeps_steps l.standing (map tokened_move (drop l.step-index l.steps)))
    ≡ keeps_steps l.standing (map tokened_move l.steps)

abbrev pub invariant-keeps_arms-loop-arm : goal.invariant-keeps_arms-loop-arm
invariant-keeps_arms-loop-arm l =
    (l.keeps && keeps_in_arms l.standing (tokened_arms (map tokened_code (drop l.arm-index l.arms))))
    ≡ keeps_in_arms l.standing (tokened_arms (map tokened_code l.arms))
