use Rattle.std.proofs.Common.{◌≡◌, drop, map}
use Rattle.kk_syntax.specs.Programs.{function_tree}
use Rattle.kk_syntax.specs.Declarations.{quantity_of_function, sooner, first_over}
use Rattle.kk_limits.proofs.declarations.first_of_functions.Given as goal

-- the first one of all is the first one so far, or of those that are left
abbrev pub invariant-loop-function : goal.invariant-loop-function
invariant-loop-function l =
    first_over (map quantity_of_function (map function_tree l.functions))
    ≡ sooner l.first (first_over (map quantity_of_function (map function_tree (drop l.function-index l.functions))))
