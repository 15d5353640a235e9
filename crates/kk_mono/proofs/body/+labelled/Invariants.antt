use Rattle.std.proofs.Common.{◌≡◌, map, take}
use Rattle.kk_syntax.specs.Trees.{expr_tree, row_tree, statement_tree}
use Rattle.kk_mono.specs.Labels.{left_in, behind, names, labelled, names_of_each, labelled_each, row_names, labelled_row, statement_names, labelled_statement}
use Rattle.kk_mono.proofs.body.+labelled.Given as goal

abbrev pub invariant-labelled_each-loop-expr : goal.invariant-labelled_each-loop-expr
invariant-labelled_each-loop-expr l = record {
  trees : map expr_tree l.copies.items ≡ labelled_each names labelled (left_in l.initial.labels) (take l.expr-index (map expr_tree l.exprs));
  rest : left_in l.labels ≡ behind (left_in l.initial.labels) (names_of_each names (take l.expr-index (map expr_tree l.exprs)));
}

abbrev pub invariant-labelled_rows-loop-row : goal.invariant-labelled_rows-loop-row
invariant-labelled_rows-loop-row l = record {
  trees : map row_tree l.copies.items ≡ labelled_each row_names labelled_row (left_in l.initial.labels) (take l.row-index (map row_tree l.rows));
  rest : left_in l.labels ≡ behind (left_in l.initial.labels) (names_of_each row_names (take l.row-index (map row_tree l.rows)));
}

abbrev pub invariant-labelled_statements-loop-statement : goal.invariant-labelled_statements-loop-statement
invariant-labelled_statements-loop-statement l = record {
  trees : map statement_tree l.copies.items ≡ labelled_each statement_names labelled_statement (left_in l.initial.labels) (take l.statement-index (map statement_tree l.statements));
  rest : left_in l.labels ≡ behind (left_in l.initial.labels) (names_of_each statement_names (take l.statement-index (map statement_tree l.statements)));
}
