use Rattle.std.proofs.Common.{◌≡◌, ◌++◌, map, drop}
use Rattle.kk_syntax.specs.Trees.{row_tree, rows_of}
use Rattle.kk_borrow.specs.Rules.{rule_trees}
use Rattle.kk_borrow.specs.Demands.{tail_rules_in}
use Rattle.kk_borrow.proofs.tail_call.+tails.Given as goal

abbrev pub invariant-read_rows-loop-row : goal.invariant-read_rows-loop-row
invariant-read_rows-loop-row l = record {
  rules : rule_trees l.rules.items ++ tail_rules_in l.function l.scope.bindings.items l.origins (rows_of (map row_tree (drop l.row-index l.rows))) ≡ rule_trees l.fn.rules.items ++ tail_rules_in l.function l.fn.scope.bindings.items l.origins (rows_of (map row_tree l.rows));
  scope : l.scope.bindings.items ≡ l.fn.scope.bindings.items;
}
