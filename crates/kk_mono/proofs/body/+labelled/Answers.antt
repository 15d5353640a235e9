use Rattle.std.proofs.Common.{ap}
use Rattle.kk_syntax.specs.Trees.{expr_tree, row_tree, statement_tree}
use Rattle.kk_syntax.proofs.Views.{branch_is}
use Rattle.kk_mono.specs.Labels.{left_in, names, labelled, row_names, labelled_row, statement_names, labelled_statement}
use Rattle.kk_mono.proofs.CopyLabels.{each_more, apply_labelled, three_labelled, match_labelled, block_copied, row_copied, statement_copied}
use Rattle.kk_mono.proofs.body.+labelled.Goals as goal

pub labelled-returns-in_ok-arguments-in-Apply-clause-tree : goal.labelled-returns-in_ok-arguments-in-Apply-clause-tree
labelled-returns-in_ok-arguments-in-Apply-clause-tree t c =
    (apply_labelled (left_in c.args.labels.now) c.args.expr.now c.in-Apply.form c.form-form.result c.in-Apply.arguments c.in_ok-arguments-in-Apply.arguments c.deref.result.now (left_in c.form-form.new.self) (left_in c.labelled_each.new.labels)
    c.in-Apply.is c.deref.ensures.value c.form-form.ensures.value c.form-form.ensures.rest c.in_ok-arguments-in-Apply.ensures.trees c.in_ok-arguments-in-Apply.ensures.rest).0

pub labelled-returns-in_ok-arguments-in-Apply-clause-rest : goal.labelled-returns-in_ok-arguments-in-Apply-clause-rest
labelled-returns-in_ok-arguments-in-Apply-clause-rest t c =
    (apply_labelled (left_in c.args.labels.now) c.args.expr.now c.in-Apply.form c.form-form.result c.in-Apply.arguments c.in_ok-arguments-in-Apply.arguments c.deref.result.now (left_in c.form-form.new.self) (left_in c.labelled_each.new.labels)
    c.in-Apply.is c.deref.ensures.value c.form-form.ensures.value c.form-form.ensures.rest c.in_ok-arguments-in-Apply.ensures.trees c.in_ok-arguments-in-Apply.ensures.rest).1

pub labelled-returns-in_ok-negative-in-If-clause-rest : goal.labelled-returns-in_ok-negative-in-If-clause-rest
labelled-returns-in_ok-negative-in-If-clause-rest t c =
    three_labelled (left_in c.args.labels.now) c.args.expr.now c.deref-in-If.result.now c.deref-in-If-2.result.now c.deref-in-If-3.result.now
    (left_in c.labelled_part.new.labels) (left_in c.labelled_part-in-If.new.labels) (left_in c.labelled_part-in-If-2.new.labels)
    (ap names (branch_is c.args.expr.now c.deref-in-If.result.now c.deref-in-If-2.result.now c.deref-in-If-3.result.now c.in-If.condition c.in-If.positive c.in-If.negative
    c.in-If.is c.deref-in-If.ensures c.deref-in-If-2.ensures c.deref-in-If-3.ensures))
    c.in_ok-condition-in-If.ensures.rest c.in_ok-positive-in-If.ensures.rest c.in_ok-negative-in-If.ensures.rest

pub labelled-returns-in_ok-rows-in-Match-clause-tree : goal.labelled-returns-in_ok-rows-in-Match-clause-tree
labelled-returns-in_ok-rows-in-Match-clause-tree t c =
    (match_labelled (left_in c.args.labels.now) c.args.expr.now c.deref-in-Match.result.now c.in-Match.scrutinee c.in_ok-scrutinee-in-Match.scrutinee c.in-Match.rows c.in_ok-rows-in-Match.rows c.deref-in-Match-2.result.now (left_in c.labelled_part-in-Match.new.labels) (left_in c.labelled_rows.new.labels)
    c.in-Match.is c.deref-in-Match.ensures c.deref-in-Match-2.ensures.value c.in_ok-scrutinee-in-Match.ensures.tree c.in_ok-scrutinee-in-Match.ensures.rest c.in_ok-rows-in-Match.ensures.trees c.in_ok-rows-in-Match.ensures.rest).0

pub labelled-returns-in_ok-rows-in-Match-clause-rest : goal.labelled-returns-in_ok-rows-in-Match-clause-rest
labelled-returns-in_ok-rows-in-Match-clause-rest t c =
    (match_labelled (left_in c.args.labels.now) c.args.expr.now c.deref-in-Match.result.now c.in-Match.scrutinee c.in_ok-scrutinee-in-Match.scrutinee c.in-Match.rows c.in_ok-rows-in-Match.rows c.deref-in-Match-2.result.now (left_in c.labelled_part-in-Match.new.labels) (left_in c.labelled_rows.new.labels)
    c.in-Match.is c.deref-in-Match.ensures c.deref-in-Match-2.ensures.value c.in_ok-scrutinee-in-Match.ensures.tree c.in_ok-scrutinee-in-Match.ensures.rest c.in_ok-rows-in-Match.ensures.trees c.in_ok-rows-in-Match.ensures.rest).1

pub labelled-returns-in_ok-value-in-Block-clause-tree : goal.labelled-returns-in_ok-value-in-Block-clause-tree
labelled-returns-in_ok-value-in-Block-clause-tree t c =
    (block_copied (left_in c.args.labels.now) c.args.expr.now c.deref-in-Block-2.result.now c.in-Block.statements c.in_ok-statements-in-Block.statements c.in-Block.value c.in_ok-value-in-Block.value c.deref-in-Block.result.now (left_in c.labelled_statements.new.labels) (left_in c.labelled_part-in-Block.new.labels)
    c.in-Block.is c.deref-in-Block.ensures.value c.deref-in-Block-2.ensures c.in_ok-statements-in-Block.ensures.trees c.in_ok-statements-in-Block.ensures.rest c.in_ok-value-in-Block.ensures.tree c.in_ok-value-in-Block.ensures.rest).0

pub labelled-returns-in_ok-value-in-Block-clause-rest : goal.labelled-returns-in_ok-value-in-Block-clause-rest
labelled-returns-in_ok-value-in-Block-clause-rest t c =
    (block_copied (left_in c.args.labels.now) c.args.expr.now c.deref-in-Block-2.result.now c.in-Block.statements c.in_ok-statements-in-Block.statements c.in-Block.value c.in_ok-value-in-Block.value c.deref-in-Block.result.now (left_in c.labelled_statements.new.labels) (left_in c.labelled_part-in-Block.new.labels)
    c.in-Block.is c.deref-in-Block.ensures.value c.deref-in-Block-2.ensures c.in_ok-statements-in-Block.ensures.trees c.in_ok-statements-in-Block.ensures.rest c.in_ok-value-in-Block.ensures.tree c.in_ok-value-in-Block.ensures.rest).1

pub labelled_each-loop-expr-preserved : goal.labelled_each-loop-expr-preserved
labelled_each-loop-expr-preserved t c =
    let more = each_more names labelled expr_tree (left_in c.args.labels.now) (left_in c.loop-expr.labels) (left_in c.labelled.new.labels) c.args.exprs.now c.loop-expr.copies.items c.push.new.self.items c.expr-item.result c.in_ok-labelled.field-0 c.loop-expr.expr-index
    c.loop-expr-test.true c.expr-item.is c.loop-expr.invariant.trees c.loop-expr.invariant.rest c.in_ok-push.ensures.items c.in_ok-labelled.ensures.tree c.in_ok-labelled.ensures.rest in
    record { trees = more.0; rest = more.1 }

pub labelled_rows-loop-row-preserved : goal.labelled_rows-loop-row-preserved
labelled_rows-loop-row-preserved t c =
    let copy = row_copied (left_in c.loop-row.labels) (left_in c.labelled_pattern.new.labels) (left_in c.labelled.new.labels) c.row-item.result c.in_ok-pattern.pattern c.in_ok-body.body
    c.in_ok-pattern.ensures.tree c.in_ok-pattern.ensures.rest c.in_ok-body.ensures.tree c.in_ok-body.ensures.rest in
    let more = each_more row_names labelled_row row_tree (left_in c.args.labels.now) (left_in c.loop-row.labels) (left_in c.labelled.new.labels) c.args.rows.now c.loop-row.copies.items c.push.new.self.items c.row-item.result (record { pattern = c.in_ok-pattern.pattern; body = c.in_ok-body.body }) c.loop-row.row-index
    c.loop-row-test.true c.row-item.is c.loop-row.invariant.trees c.loop-row.invariant.rest c.in_ok-push.ensures.items copy.0 copy.1 in
    record { trees = more.0; rest = more.1 }

pub labelled_statements-loop-statement-preserved : goal.labelled_statements-loop-statement-preserved
labelled_statements-loop-statement-preserved t c =
    let copy = statement_copied (left_in c.loop-statement.labels) (left_in c.labelled.new.labels) c.statement-item.result c.in_ok-labelled.field-0 c.in_ok-labelled.ensures.tree c.in_ok-labelled.ensures.rest in
    let more = each_more statement_names labelled_statement statement_tree (left_in c.args.labels.now) (left_in c.loop-statement.labels) (left_in c.labelled.new.labels) c.args.statements.now c.loop-statement.copies.items c.push.new.self.items c.statement-item.result (record { binder = c.statement-item.result.binder; value = c.in_ok-labelled.field-0 }) c.loop-statement.statement-index
    c.loop-statement-test.true c.statement-item.is c.loop-statement.invariant.trees c.loop-statement.invariant.rest c.in_ok-push.ensures.items copy.0 copy.1 in
    record { trees = more.0; rest = more.1 }
