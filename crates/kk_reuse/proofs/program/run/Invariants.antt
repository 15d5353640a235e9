use Rattle.std.proofs.Common.{◌≡◌, ◌++◌, map, drop}
use Rattle.kk_counted.specs.Programs.{function_of}
use Rattle.kk_counted.specs.TokenedForms.{tokened_function}
use Rattle.kk_reuse.specs.Pairing.{paired_function}
use Rattle.kk_reuse.proofs.program.run.Given as goal

abbrev pub invariant-loop-function : goal.invariant-loop-function
invariant-loop-function l =
    map tokened_function l.made.items ++ map paired_function (map function_of (drop l.function-index l.function-items))
    ≡ map paired_function (map function_of l.function-items)
