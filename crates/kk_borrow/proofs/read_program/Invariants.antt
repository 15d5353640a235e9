use Rattle.std.proofs.Common.{◌≡◌, ◌++◌, map, drop}
use Rattle.kk_syntax.specs.Programs.{function_tree}
use Rattle.kk_borrow.specs.Rules.{rule_trees}
use Rattle.kk_borrow.specs.Demands.{rules_from}
use Rattle.kk_borrow.proofs.read_program.Given as goal

abbrev pub invariant-loop-number : goal.invariant-loop-number
invariant-loop-number l = rule_trees l.rules.items ++ rules_from l.number (map function_tree (drop l.number l.functions)) ≡ rules_from 0 (map function_tree l.functions)
