use Rattle.std.proofs.Common.{◌≡◌, max, drop, map}
use Rattle.kk_syntax.specs.Programs.{function_tree}
use Rattle.kk_syntax.specs.Shapes.{greatest_of}
use Rattle.kk_mono.specs.Counts.{too_many_nodes}
use Rattle.kk_mono.proofs.program.check_nodes.Given as goal

-- no function so far has too many, and the greatest number so far is known
abbrev pub invariant-loop-function : goal.invariant-loop-function
invariant-loop-function l = record {
  few : too_many_nodes (map function_tree l.functions) ≡ too_many_nodes (map function_tree (drop l.function-index l.functions));
  greatest : greatest_of (map function_tree l.functions) ≡ max l.greatest (greatest_of (map function_tree (drop l.function-index l.functions)));
}
