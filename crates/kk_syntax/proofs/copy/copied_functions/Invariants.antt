use Rattle.std.proofs.Common.{◌≡◌, map, take}
use Rattle.kk_syntax.specs.Programs.{function_tree}
use Rattle.kk_syntax.proofs.copy.copied_functions.Given as goal

abbrev pub invariant-loop-function : goal.invariant-loop-function
invariant-loop-function l = map function_tree l.copies.items ≡ map function_tree (take l.function-index l.functions)
