use Rattle.std.proofs.Common.{◌≡◌, map, drop}
use Rattle.kk_counted.specs.BareForms.{bare_arms}
use Rattle.kk_counted.specs.TokenedForms.{tokened_code, tokened_move, tokened_arms}
use Rattle.rv_cells.specs.ComparisonBranch.{name_arms, steps_name}
use Rattle.rv_cells.proofs.compare.+names.Given as goal

abbrev pub invariant-steps_name-loop-step : goal.invariant-steps_name-loop-step
invariant-steps_name-loop-step l =
    steps_name l.variable (map tokened_move (drop l.step-index l.steps)) ≡ steps_name l.variable (map tokened_move l.steps)

abbrev pub invariant-arms_name-loop-arm : goal.invariant-arms_name-loop-arm
invariant-arms_name-loop-arm l =
    name_arms l.variable (bare_arms (tokened_arms (map tokened_code (drop l.arm-index l.arms))))
    ≡ name_arms l.variable (bare_arms (tokened_arms (map tokened_code l.arms)))
