use Rattle.std.proofs.Common.{◌≡◌, ◌++◌, map, drop}
use Rattle.kk_syntax.specs.Trees.{expr_tree, trees_of}
use Rattle.kk_borrow.specs.Rules.{rule_trees}
use Rattle.kk_borrow.specs.Demands.{passed}
use Rattle.kk_borrow.proofs.tail_call.read_call.Given as goal

abbrev pub invariant-loop-parameter : goal.invariant-loop-parameter
invariant-loop-parameter l = rule_trees l.rules.items ++ passed l.function l.scope.bindings.items l.callee l.parameter (trees_of (map expr_tree (drop l.parameter l.arguments))) ≡ rule_trees l.fn.rules.items ++ passed l.function l.scope.bindings.items l.callee 0 (trees_of (map expr_tree l.arguments))
