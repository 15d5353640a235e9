use Rattle.std.proofs.Common.{◌≡◌, ◌++◌, map, drop}
use Rattle.kk_syntax.specs.Trees.{expr_tree, trees_of, row_tree, rows_of, statement_tree}
use Rattle.kk_syntax.specs.Shapes.{without, free_all, free_rows}
use Rattle.kk_meaning.specs.FreeOf.{free_of_statements, bound_by_statements}
use Rattle.kk_meaning.proofs.free.FreeVariables.+free.Given as goal

abbrev pub invariant-of_each-loop-expr : goal.invariant-of_each-loop-expr
invariant-of_each-loop-expr l = record {
  bound : l.self.bound.items ≡ l.fn.self.bound.items;
  found : l.self.found.items ++ without l.self.bound.items (free_all (trees_of (map expr_tree (drop l.expr-index l.exprs)))) ≡ l.fn.self.found.items ++ without l.fn.self.bound.items (free_all (trees_of (map expr_tree l.exprs)));
}

abbrev pub invariant-of_rows-loop-row : goal.invariant-of_rows-loop-row
invariant-of_rows-loop-row l = record {
  bound : l.self.bound.items ≡ l.fn.self.bound.items;
  found : l.self.found.items ++ without l.self.bound.items (free_rows (rows_of (map row_tree (drop l.row-index l.rows)))) ≡ l.fn.self.found.items ++ without l.fn.self.bound.items (free_rows (rows_of (map row_tree l.rows)));
}

abbrev pub invariant-of_statements-loop-statement : goal.invariant-of_statements-loop-statement
invariant-of_statements-loop-statement l = record {
  bound : l.self.bound.items ++ bound_by_statements (map statement_tree (drop l.statement-index l.statements)) ≡ l.fn.self.bound.items ++ bound_by_statements (map statement_tree l.statements);
  found : l.self.found.items ++ without l.self.bound.items (free_of_statements (map statement_tree (drop l.statement-index l.statements))) ≡ l.fn.self.found.items ++ without l.fn.self.bound.items (free_of_statements (map statement_tree l.statements));
}
