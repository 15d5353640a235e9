use Rattle.std.proofs.Common.{◌≡◌, ◌++◌, map, take, drop}
use Rattle.kk_counted.specs.TokenedForms.{tokened_function}
use Rattle.kk_respec.specs.Respecialised.{respecialised_function}
use Rattle.kk_respec.proofs.program.run.Given as goal

abbrev pub invariant-loop-function : goal.invariant-loop-function
invariant-loop-function l =
    map tokened_function (take l.function-index l.function-items)
    ++ map respecialised_function (map tokened_function (drop l.function-index l.function-items))
    ≡ map respecialised_function (map tokened_function l.initial.function-items)
