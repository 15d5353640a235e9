use Rattle.std.proofs.Common.{◌||◌, map, ap, sym, ◌∙◌}
use Rattle.kk_syntax.specs.Trees.{expr_tree, row_tree, rows_of}
use Rattle.kk_syntax.proofs.Views.{branch_is, match_is}
use Rattle.kk_borrow.specs.Rules.{rule_trees}
use Rattle.kk_borrow.proofs.Blocks.{block_rules, block_builds}
use Rattle.kk_borrow.proofs.Readings.{branch_rules, match_rules, argument_rules, argument_builds, row_rules, row_builds, row_reuses}
use Rattle.kk_borrow.proofs.Readings.{statement_rules, statement_builds}
use Rattle.kk_borrow.proofs.owned_place.+read.Goals as goal

pub read-returns-in_ok-last-in-Block-clause-rules : goal.read-returns-in_ok-last-in-Block-clause-rules
read-returns-in_ok-last-in-Block-clause-rules t c =
    block_rules c.args.function c.args.place c.place_behind.result c.args.expr.now c.in-Block.statements c.in-Block.value c.in-Block.is
    c.deref-in-Block.result.now c.deref-in-Block-2.result.now c.deref-in-Block-3.result.now c.deref-in-Block.ensures.value c.deref-in-Block-2.ensures.value c.deref-in-Block-3.ensures c.place_behind.ensures
    (rule_trees c.args.rules.now.items) (rule_trees c.read_statements.new.rules.items) (rule_trees c.read-in-Block.new.rules.items) c.in_ok-first-in-Block.ensures.rules c.in_ok-last-in-Block.ensures.rules

pub read-returns-in_ok-last-in-Block-clause-builds : goal.read-returns-in_ok-last-in-Block-clause-builds
read-returns-in_ok-last-in-Block-clause-builds t c =
    let whole = block_builds c.args.expr.now c.in-Block.statements c.in-Block.value c.in-Block.is c.deref-in-Block.result.now c.deref-in-Block.ensures.value c.in_ok-first-in-Block.first c.in_ok-first-in-Block.ensures.builds in
    let value = rw c.deref-in-Block-3.ensures at c.in_ok-last-in-Block.ensures.builds in
    ap (λ b. c.in_ok-first-in-Block.first || b) value ∙ sym whole

pub read-returns-in_ok-third-in-If-clause-rules : goal.read-returns-in_ok-third-in-If-clause-rules
read-returns-in_ok-third-in-If-clause-rules t c =
    branch_rules c.args.function c.args.place (expr_tree c.args.expr.now) (expr_tree c.deref-in-If.result.now)
    (expr_tree c.deref-in-If-2.result.now) (expr_tree c.deref-in-If-3.result.now)
    (branch_is c.args.expr.now c.deref-in-If.result.now c.deref-in-If-2.result.now c.deref-in-If-3.result.now c.in-If.condition
    c.in-If.positive c.in-If.negative c.in-If.is c.deref-in-If.ensures c.deref-in-If-2.ensures c.deref-in-If-3.ensures)
    (rule_trees c.args.rules.now.items) (rule_trees c.read.new.rules.items) (rule_trees c.read-in-If.new.rules.items)
    (rule_trees c.read-in-If-2.new.rules.items) c.in_ok-first-in-If.ensures.rules c.in_ok-second-in-If.ensures.rules
    c.in_ok-third-in-If.ensures.rules

pub read-returns-in_ok-first-in-Match-clause-rules : goal.read-returns-in_ok-first-in-Match-clause-rules
read-returns-in_ok-first-in-Match-clause-rules t c =
    match_rules c.args.function c.args.place c.place_if.result (expr_tree c.args.expr.now) (expr_tree c.deref-in-Match-2.result.now)
    (rows_of (map row_tree c.deref-in-Match.result.now))
    (match_is c.args.expr.now c.deref-in-Match-2.result.now c.deref-in-Match.result.now c.in-Match.scrutinee c.in-Match.rows
    c.in-Match.is c.deref-in-Match-2.ensures c.deref-in-Match.ensures.value)
    c.in_ok-built-in-Match.built.opened c.in_ok-built-in-Match.ensures.reuses c.place_if.ensures
    (rule_trees c.args.rules.now.items) (rule_trees c.read_rows.new.rules.items) (rule_trees c.read-in-Match.new.rules.items)
    c.in_ok-built-in-Match.ensures.rules c.in_ok-first-in-Match.ensures.rules

pub read_arguments-loop-index-preserved : goal.read_arguments-loop-index-preserved
read_arguments-loop-index-preserved t c =
    let all = c.args.arguments.now in
    let i = c.loop-index.index in
    let e = c.index-arguments-index.result in
    record {
      rules = argument_rules all i e c.loop-index-test.true c.index-arguments-index.is c.args.function c.args.form c.place_in.result
          c.place_in.ensures (rule_trees c.loop-index.rules.items) (rule_trees c.read.new.rules.items) _
          c.in_ok-built.ensures.rules c.loop-index.invariant.rules;
      builds = argument_builds all i e c.loop-index-test.true c.index-arguments-index.is c.loop-index.any c.in_ok-built.built _
          c.in_ok-built.ensures.builds c.loop-index.invariant.builds;
    }

pub read_rows-loop-row-preserved : goal.read_rows-loop-row-preserved
read_rows-loop-row-preserved t c =
    let all = c.args.rows.now in
    let i = c.loop-row.row-index in
    let r = c.row-item.result in
    record {
      rules = row_rules all i r c.loop-row-test.true c.row-item.is c.args.function (rule_trees c.loop-row.rules.items)
          (rule_trees c.read.new.rules.items) _ c.in_ok-built.ensures.rules c.loop-row.invariant.rules;
      builds = row_builds all i r c.loop-row-test.true c.row-item.is c.loop-row.any c.in_ok-built.built _
          c.in_ok-built.ensures.builds c.loop-row.invariant.builds;
      reuses = row_reuses all i r c.loop-row-test.true c.row-item.is c.loop-row.opened c.opens.result c.in_ok-built.built _
          c.opens.ensures c.in_ok-built.ensures.builds c.loop-row.invariant.reuses;
    }

pub read_statements-loop-statement-preserved : goal.read_statements-loop-statement-preserved
read_statements-loop-statement-preserved t c =
    let all = c.args.statements.now in
    let i = c.loop-statement.statement-index in
    let s = c.statement-item.result in
    record {
      rules = statement_rules all i s c.loop-statement-test.true c.statement-item.is c.args.function c.place_if-place.result
          c.is_val.result c.place_if-place.ensures c.is_val.ensures (rule_trees c.loop-statement.rules.items)
          (rule_trees c.read.new.rules.items) _ c.in_ok-built.ensures.rules c.loop-statement.invariant.rules;
      builds = statement_builds all i s c.loop-statement-test.true c.statement-item.is c.loop-statement.any c.in_ok-built.built _
          c.in_ok-built.ensures.builds c.loop-statement.invariant.builds;
    }
