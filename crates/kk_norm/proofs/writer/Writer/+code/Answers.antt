use Rattle.std.proofs.Common.{ℕ, ◌+◌, arith, List, map, drop, sym, ap, subst, ◌∙◌, refl}
use Rattle.std.proofs.Common.{rules}
use Rattle.std.proofs.lemmas.List.{drop_all}
use Rattle.std.proofs.lemmas.Result.{IfOk-weaker}
use Rattle.kk_syntax.specs.declared.program.Expr.TheViews.{the_lemmas}
use Rattle.kk_syntax.specs.declared.program.Expr.{Expr}
use Rattle.kk_syntax.specs.declared.program.Row.{Row}
use Rattle.kk_syntax.specs.declared.program.Statement.{Statement}
use Rattle.kk_syntax.specs.Patterns.{pattern_tree}
use Rattle.kk_syntax.specs.GroundPrograms.{ground_program}
use Rattle.kk_syntax.specs.Trees.{StatementTree, Trees, Rows, expr_tree, row_tree, rows_of, statement_tree, trees_of}
use Rattle.kk_core.specs.Codes.{Code, runs, plug, step_piece, block_code, last_code, ArmCode, arm_code}
use Rattle.kk_core.specs.declared.form.Arm.{Arm}
use Rattle.kk_core.specs.declared.form.Block.{Block}
use Rattle.kk_core.specs.declared.form.Step.{Step}
use Rattle.kk_norm.specs.declared.writer.Writer.{Writer}
use Rattle.kk_norm.specs.Written.{WritesStep}
use Rattle.kk_syntax.proofs.Views.{variable_is, apply_is, branch_is, match_is, block_is}
use Rattle.kk_syntax.proofs.ProgramTrees.{next_expr, next_row, next_statement}
use Rattle.kk_norm.proofs.WriterSteps.{return_code, case_code, arms_pushed}
use Rattle.kk_norm.proofs.WriterSteps as Writing
use Rattle.kk_norm.proofs.WriterLoops.{if_ok_three, ValuesSoFar, values_more, values_done, variable_end, apply_end, choice_value, choice_end, choice_done, block_done, StatementsSoFar, statements_more, statements_done, value_asked, statement_asked, statements_asked, choice_asked, last_asked, names_back, block_value, block_end, variable_value, apply_value}
use Rattle.kk_norm.proofs.MatchLoop.{ArmsSoFar, arms_more, arms_done, arm_asked, case_asked, arm_done, case_done, case_value, case_end}
use Rattle.kk_norm.proofs.writer.Writer.+code.Goals as goal

pub end-statements-requires : goal.end-statements-requires
end-statements-requires t c = (
  search (rules, the_lemmas),
  statements_asked _ _ _ c.args.self.now.next
      (block_is c.args.expr.now c.in-Block.value.value c.deref-in-Block.result.now c.in-Block.statements c.in-Block.value
      c.in-Block.is c.deref-in-Block.ensures.value refl)
      c.requires.rows c.requires.room,
)

pub end-end-requires : goal.end-end-requires
end-end-requires t c = (
  search (rules, the_lemmas),
  last_asked _ _ _ c.args.self.now c.statements.new.self
      (block_is c.args.expr.now c.deref-in-Block-2.result.now c.deref-in-Block.result.now c.in-Block.statements c.in-Block.value
      c.in-Block.is c.deref-in-Block.ensures.value c.deref-in-Block-2.ensures)
      c.requires.rows c.requires.room (c.in_ok-statements-in-Block.ensures.statements (expr_tree c.deref-in-Block-2.result.now)),
)

pub end-returns-in_ok-last-in-Block : goal.end-returns-in_ok-last-in-Block
end-returns-in_ok-last-in-Block t c =
    block_end c.args.tail (expr_tree c.args.expr.now) (expr_tree c.deref-in-Block-2.result.now)
    (map statement_tree c.deref-in-Block.result.now) c.args.self.now c.statements.new.self c.end.new.self _ _
    (block_is c.args.expr.now c.deref-in-Block-2.result.now c.deref-in-Block.result.now c.in-Block.statements c.in-Block.value
    c.in-Block.is c.deref-in-Block.ensures.value c.deref-in-Block-2.ensures)
    (c.in_ok-statements-in-Block.ensures.statements (expr_tree c.deref-in-Block-2.result.now))
    c.in_ok-last-in-Block.ensures refl refl
    (names_back c.args.self.now c.statements.new.self c.end.new.self c.len-bound.result c.truncate.new.self.items
    (c.len-bound.ensures ∙ c.args.self.now.names.ok.0) c.in_ok-statements-in-Block.ensures.names
    c.in_ok-last-in-Block.ensures.names c.truncate.ensures.items)

pub statements-value-requires : goal.statements-value-requires
statements-value-requires t c = (
  search (rules, the_lemmas),
  statement_asked c.args.self.now c.loop-statement.self (map statement_tree
      (drop c.loop-statement.statement-index c.args.statements.now)) (map statement_tree c.args.statements.now)
      (record { binder = c.statement-item.result.binder; value = expr_tree c.statement-item.result.value })
      (map statement_tree (drop (c.loop-statement.statement-index + 1) c.args.statements.now))
      c.loop-statement.invariant
      (next_statement c.args.statements.now c.loop-statement.statement-index c.statement-item.result c.statement-item.is
      c.loop-statement-test.true) c.requires,
)

pub statements-loop-statement-preserved : goal.statements-loop-statement-preserved
statements-loop-statement-preserved t c =
    let left = map statement_tree (drop (c.loop-statement.statement-index + 1) c.args.statements.now) in
    let all = map statement_tree c.args.statements.now in
    let s : StatementTree = record { binder = c.statement-item.result.binder; value = expr_tree c.statement-item.result.value } in
    statements_more c.args.self.now c.loop-statement.self c.value.new.self c.bind.new.self s left all c.in_ok-variable.variable
    (subst (λ (ss : List StatementTree). StatementsSoFar
    (ground_program c.args.given.now).constructors c.args.self.now c.loop-statement.self ss all)
    (next_statement c.args.statements.now c.loop-statement.statement-index c.statement-item.result c.statement-item.is
    c.loop-statement-test.true) c.loop-statement.invariant)
    c.in_ok-variable.ensures c.in_ok-bind.ensures.number c.in_ok-bind.ensures.steps c.in_ok-bind.ensures.names
    c.in_ok-bind.ensures.longer c.in_ok-bind.ensures.kept

pub value-statements-requires : goal.value-statements-requires
value-statements-requires t c = (
  search (rules, the_lemmas),
  statements_asked _ _ _ c.args.self.now.next
      (block_is c.args.expr.now c.in-Block.value.value c.deref-in-Block.result.now c.in-Block.statements c.in-Block.value
      c.in-Block.is c.deref-in-Block.ensures.value refl)
      c.requires.rows c.requires.room,
)

pub value-value-requires : goal.value-value-requires
value-value-requires t c = (
  search (rules, the_lemmas),
  last_asked _ _ _ c.args.self.now c.statements.new.self
      (block_is c.args.expr.now c.deref-in-Block-2.result.now c.deref-in-Block.result.now c.in-Block.statements c.in-Block.value
      c.in-Block.is c.deref-in-Block.ensures.value c.deref-in-Block-2.ensures)
      c.requires.rows c.requires.room (c.in_ok-statements-in-Block.ensures.statements (expr_tree c.deref-in-Block-2.result.now)),
)

pub value-returns-in_ok-use_variable-in-Variable : goal.value-returns-in_ok-use_variable-in-Variable
value-returns-in_ok-use_variable-in-Variable t c =
    variable_value (expr_tree c.args.expr.now) c.in-Variable.variable c.name-name.result c.args.self.now c.use_variable.new.self
    (variable_is c.args.expr.now c.in-Variable.variable c.in-Variable.is) c.name-name.ensures
    c.in_ok-use_variable-in-Variable.ensures

pub value-returns-in_ok-arguments-in-Apply : goal.value-returns-in_ok-arguments-in-Apply
value-returns-in_ok-arguments-in-Apply t c =
    IfOk-weaker c.compute.result _ _
    (λ x writes. apply_value (expr_tree c.args.expr.now) c.in-Apply.form
    (trees_of (map expr_tree c.deref.result.now)) c.in_ok-arguments-in-Apply.arguments.items c.args.self.now c.values.new.self
    c.compute.new.self x
    (apply_is c.args.expr.now c.in-Apply.form c.in-Apply.arguments c.deref.result.now c.in-Apply.is c.deref.ensures.value)
    c.in_ok-arguments-in-Apply.ensures writes)
    c.compute.ensures

pub value-returns-in_ok-variable-in-Block : goal.value-returns-in_ok-variable-in-Block
value-returns-in_ok-variable-in-Block t c =
    block_value (expr_tree c.args.expr.now) (expr_tree c.deref-in-Block-2.result.now)
    (map statement_tree c.deref-in-Block.result.now) c.args.self.now c.statements.new.self c.value.new.self _
    c.in_ok-variable-in-Block.variable
    (block_is c.args.expr.now c.deref-in-Block-2.result.now c.deref-in-Block.result.now c.in-Block.statements c.in-Block.value
    c.in-Block.is c.deref-in-Block.ensures.value c.deref-in-Block-2.ensures)
    (c.in_ok-statements-in-Block.ensures.statements (expr_tree c.deref-in-Block-2.result.now))
    c.in_ok-variable-in-Block.ensures refl refl
    (names_back c.args.self.now c.statements.new.self c.value.new.self c.len-bound.result c.truncate.new.self.items
    (c.len-bound.ensures ∙ c.args.self.now.names.ok.0) c.in_ok-statements-in-Block.ensures.names
    c.in_ok-variable-in-Block.ensures.names c.truncate.ensures.items)

pub values-value-requires : goal.values-value-requires
values-value-requires t c = (
  search (rules, the_lemmas),
  value_asked c.args.self.now c.loop-expr.self (trees_of (map expr_tree (drop c.loop-expr.expr-index c.args.exprs.now)))
      (trees_of (map expr_tree c.args.exprs.now)) c.loop-expr.variables.items
      (expr_tree c.expr-item.result) (trees_of (map expr_tree (drop (c.loop-expr.expr-index + 1) c.args.exprs.now)))
      c.loop-expr.invariant
      (next_expr c.args.exprs.now c.loop-expr.expr-index c.expr-item.result c.expr-item.is c.loop-expr-test.true)
      c.requires.room,
)

pub block-returns : goal.block-returns
block-returns t c =
    let began : Writer = record c.args.self.now { steps = c.replace-outer.new.dest } in
    let new : Writer = record c.end.new.self { steps = c.replace-steps.new.dest } in
    block_done c.args.tail (expr_tree c.args.expr.now) c.args.self.now began c.end.new.self new
    (last_code c.in_ok-last.last) _ refl refl
    (cc (c.replace-outer.ensures.after, c.new.ensures.items)) c.in_ok-last.ensures
    (Writing.block_is _ ∙ ap (λ (items : List Step). plug (map step_piece items) (last_code c.in_ok-last.last))
    (cc c.replace-steps.ensures.value)) refl refl
    (cc (c.replace-steps.ensures.after, c.replace-outer.ensures.value))

pub choice-returns : goal.choice-returns
choice-returns t c =
    IfOk-weaker c.case_by_truth.result _ _
    (λ last is. choice_done c.args.tail (expr_tree c.args.condition.now) (expr_tree c.args.positive.now)
    (expr_tree c.args.negative.now) c.args.self.now c.value.new.self c.block.new.self c.block-2.new.self
    c.in_ok-on.on (block_code c.in_ok-positive.positive) (block_code c.in_ok-negative.negative)
    (last_code last) c.in_ok-on.ensures c.in_ok-positive.ensures c.in_ok-negative.ensures is)
    c.case_by_truth.ensures

pub end-returns-in-Variable : goal.end-returns-in-Variable
end-returns-in-Variable t c =
    variable_end c.args.tail (expr_tree c.args.expr.now) c.in-Variable.variable c.name.result c.args.self.now _
    (variable_is c.args.expr.now c.in-Variable.variable c.in-Variable.is) c.name.ensures (return_code c.name.result)

pub end-returns-in_ok-arguments-in-Apply : goal.end-returns-in_ok-arguments-in-Apply
end-returns-in_ok-arguments-in-Apply t c =
    if_ok_three c.finish.result _ _ _ _ c.finish.ensures.number c.finish.ensures.names c.finish.ensures.steps
    (λ last number names steps. apply_end c.args.tail (expr_tree c.args.expr.now) c.in-Apply.form
    (trees_of (map expr_tree c.deref.result.now)) c.in_ok-arguments-in-Apply.arguments.items c.args.self.now c.values.new.self
    c.finish.new.self (last_code last)
    (apply_is c.args.expr.now c.in-Apply.form c.in-Apply.arguments c.deref.result.now c.in-Apply.is c.deref.ensures.value)
    c.in_ok-arguments-in-Apply.ensures number names steps)

pub end-returns-in_ok-last-in-If : goal.end-returns-in_ok-last-in-If
end-returns-in_ok-last-in-If t c =
    choice_end c.args.tail (expr_tree c.args.expr.now) (expr_tree c.deref-in-If.result.now) (expr_tree c.deref-in-If-2.result.now)
    (expr_tree c.deref-in-If-3.result.now) c.args.self.now c.choice.new.self _ (last_code c.in_ok-last-in-If.last)
    (branch_is c.args.expr.now c.deref-in-If.result.now c.deref-in-If-2.result.now c.deref-in-If-3.result.now c.in-If.condition
    c.in-If.positive c.in-If.negative c.in-If.is c.deref-in-If.ensures c.deref-in-If-2.ensures c.deref-in-If-3.ensures)
    c.in_ok-last-in-If.ensures refl refl refl

pub value-returns-in_ok-last-in-If : goal.value-returns-in_ok-last-in-If
value-returns-in_ok-last-in-If t c =
    IfOk-weaker c.inside.result _ _
    (λ x writes. choice_value (expr_tree c.args.expr.now) (expr_tree c.deref-in-If.result.now)
    (expr_tree c.deref-in-If-2.result.now)
    (expr_tree c.deref-in-If-3.result.now) c.args.self.now c.choice.new.self c.inside.new.self
    (last_code c.in_ok-last-in-If.last) x
    (branch_is c.args.expr.now c.deref-in-If.result.now c.deref-in-If-2.result.now c.deref-in-If-3.result.now c.in-If.condition
    c.in-If.positive c.in-If.negative c.in-If.is c.deref-in-If.ensures c.deref-in-If-2.ensures c.deref-in-If-3.ensures)
    c.in_ok-last-in-If.ensures
    (subst (λ (code : Code). WritesStep (runs c.choice.new.self.next code) c.choice.new.self c.inside.new.self x)
    (Writing.block_is _ ∙ ap (λ (items : List Step). plug (map step_piece items)
    (last_code c.in_ok-last-in-If.last)) c.new-steps.ensures.items) writes))
    c.inside.ensures

pub end-returns-in_ok-last-in-Match : goal.end-returns-in_ok-last-in-Match
end-returns-in_ok-last-in-Match t c =
    case_end c.args.tail (expr_tree c.args.expr.now) (expr_tree c.deref-in-Match-2.result.now)
    (rows_of (map row_tree c.deref-in-Match.result.now)) c.args.self.now c.case.new.self _
    (last_code c.in_ok-last-in-Match.last)
    (match_is c.args.expr.now c.deref-in-Match-2.result.now c.deref-in-Match.result.now c.in-Match.scrutinee c.in-Match.rows
    c.in-Match.is c.deref-in-Match-2.ensures c.deref-in-Match.ensures.value)
    c.in_ok-last-in-Match.ensures refl refl refl

pub value-returns-in_ok-last-in-Match : goal.value-returns-in_ok-last-in-Match
value-returns-in_ok-last-in-Match t c =
    IfOk-weaker c.inside-in-Match.result _ _
    (λ x writes. case_value (expr_tree c.args.expr.now) (expr_tree c.deref-in-Match-2.result.now)
    (rows_of (map row_tree c.deref-in-Match.result.now)) c.args.self.now c.case.new.self c.inside-in-Match.new.self
    (last_code c.in_ok-last-in-Match.last) x
    (match_is c.args.expr.now c.deref-in-Match-2.result.now c.deref-in-Match.result.now c.in-Match.scrutinee c.in-Match.rows
    c.in-Match.is c.deref-in-Match-2.ensures c.deref-in-Match.ensures.value)
    c.in_ok-last-in-Match.ensures
    (subst (λ (code : Code). WritesStep (runs c.case.new.self.next code) c.case.new.self c.inside-in-Match.new.self x)
    (Writing.block_is _ ∙ ap (λ (items : List Step). plug (map step_piece items) (last_code c.in_ok-last-in-Match.last))
    (c.new-steps-in-Match.ensures.items)) writes))
    c.inside-in-Match.ensures

pub case-returns : goal.case-returns
case-returns t c =
    case_done c.args.tail (expr_tree c.args.scrutinee.now) (rows_of
    (map row_tree c.args.rows.now)) c.args.self.now c.value.new.self c.arms.new.self c.in_ok-on.on _ _ _
    c.in_ok-on.ensures c.in_ok-decisions.ensures c.in_ok-arms.ensures
    (case_code c.in_ok-on.on c.in_ok-decisions.decisions c.in_ok-arms.arms)

pub case-arms-requires : goal.case-arms-requires
case-arms-requires t c =
    (search (rules, the_lemmas), (c.requires.bodies, omega (arith, c.in_ok-on.ensures.number, c.requires.room)))

pub arms-returns : goal.arms-returns
arms-returns t c =
    let all = rows_of (map row_tree c.args.rows.now) in
    arms_done c.args.tail c.args.on c.args.self.now c.loop-row.self all (map arm_code c.loop-row.arms.items)
    (subst (λ (left : List Row). ArmsSoFar
    (ground_program c.args.given.now).constructors c.args.tail c.args.on c.args.self.now c.loop-row.self
    (rows_of (map row_tree left)) all (map arm_code c.loop-row.arms.items))
    (drop_all c.loop-row.row-index c.args.rows.now c.loop-row-test.false) c.loop-row.invariant)

pub arms-arm-requires : goal.arms-arm-requires
arms-arm-requires t c = (
  search (rules, the_lemmas),
  arm_asked {constructors = (ground_program c.args.given.now).constructors} c.args.tail c.args.on c.args.self.now c.loop-row.self
      (rows_of (map row_tree (drop c.loop-row.row-index c.args.rows.now))) (rows_of (map row_tree c.args.rows.now))
      (map arm_code c.loop-row.arms.items)
      (pattern_tree c.row-item.result.pattern) (expr_tree c.row-item.result.body)
      (rows_of (map row_tree (drop (c.loop-row.row-index + 1) c.args.rows.now)))
      c.loop-row.invariant (next_row c.args.rows.now c.loop-row.row-index c.row-item.result c.row-item.is c.loop-row-test.true)
      c.requires.room,
)

pub arms-loop-row-preserved : goal.arms-loop-row-preserved
arms-loop-row-preserved t c =
    let constructors = (ground_program c.args.given.now).constructors in
    let left = rows_of (map row_tree (drop (c.loop-row.row-index + 1) c.args.rows.now)) in
    let all = rows_of (map row_tree c.args.rows.now) in
    let one : Arm = record { pattern = c.in_ok-pattern.pattern; body = c.in_ok-body.body } in
    subst (λ (some : List ArmCode). ArmsSoFar constructors c.args.tail c.args.on c.args.self.now c.arm.new.self left all some)
    (sym (arms_pushed c.loop-row.arms.items c.push.new.self.items one
    (pattern_tree c.row-item.result.pattern) c.in_ok-push.ensures.items c.in_ok-pattern.ensures))
    (arms_more c.args.tail c.args.on c.args.self.now c.loop-row.self c.arm.new.self (pattern_tree c.row-item.result.pattern)
    (expr_tree c.row-item.result.body) left all (map arm_code c.loop-row.arms.items) (block_code c.in_ok-body.body)
    (subst (λ (rows : Rows). ArmsSoFar constructors c.args.tail c.args.on c.args.self.now c.loop-row.self rows all
    (map arm_code c.loop-row.arms.items))
    (next_row c.args.rows.now c.loop-row.row-index c.row-item.result c.row-item.is c.loop-row-test.true) c.loop-row.invariant)
    c.in_ok-body.ensures)

pub arm-returns : goal.arm-returns
arm-returns t c =
    let began : Writer = record c.args.self.now { steps = c.replace-outer.new.dest } in
    let new : Writer = record c.end.new.self { names = c.truncate.new.self; steps = c.replace-steps.new.dest } in
    arm_done c.args.tail (pattern_tree c.args.pattern.now)
    (expr_tree c.args.body.now) c.args.on c.args.self.now began c.open.new.self c.end.new.self new
    (last_code c.in_ok-last.last) _ refl refl
    (cc (c.replace-outer.ensures.after, c.new.ensures.items)) c.in_ok-open.ensures c.in_ok-last.ensures
    (Writing.block_is _ ∙ ap (λ (items : List Step). plug (map step_piece items) (last_code c.in_ok-last.last))
    (cc (c.replace-steps.ensures.value))) refl
    (names_back c.args.self.now c.open.new.self c.end.new.self c.len-bound.result c.truncate.new.self.items
    (c.len-bound.ensures ∙ c.args.self.now.names.ok.0) c.in_ok-open.ensures.kept c.in_ok-last.ensures.names
    c.truncate.ensures.items)
    (cc (c.replace-steps.ensures.after, c.replace-outer.ensures.value))

pub values-loop-expr-preserved : goal.values-loop-expr-preserved
values-loop-expr-preserved t c =
    let left = trees_of (map expr_tree (drop (c.loop-expr.expr-index + 1) c.args.exprs.now)) in
    let all = trees_of (map expr_tree c.args.exprs.now) in
    subst (λ (xs : List ℕ). ValuesSoFar (ground_program c.args.given.now).constructors c.args.self.now c.value.new.self left all xs)
    (sym c.in_ok-push.ensures.items)
    (values_more c.args.self.now c.loop-expr.self c.value.new.self
    (expr_tree c.expr-item.result) left all c.loop-expr.variables.items c.in_ok-variable.variable
    (subst (λ (es : Trees). ValuesSoFar
    (ground_program c.args.given.now).constructors c.args.self.now c.loop-expr.self es all c.loop-expr.variables.items)
    (next_expr c.args.exprs.now c.loop-expr.expr-index c.expr-item.result c.expr-item.is c.loop-expr-test.true)
    c.loop-expr.invariant)
    c.in_ok-variable.ensures)

pub value-choice-requires : goal.value-choice-requires
value-choice-requires t c = (
  search (rules, the_lemmas),
  choice_asked _ _ _ _ c.args.self.now.next
      (branch_is c.args.expr.now c.deref-in-If.result.now c.deref-in-If-2.result.now c.deref-in-If-3.result.now c.in-If.condition
      c.in-If.positive c.in-If.negative c.in-If.is c.deref-in-If.ensures c.deref-in-If-2.ensures c.deref-in-If-3.ensures)
      c.requires.rows c.requires.room,
)

pub value-case-requires : goal.value-case-requires
value-case-requires t c = (
  search (rules, the_lemmas),
  case_asked _ _ _ c.args.self.now.next
      (match_is c.args.expr.now c.deref-in-Match-2.result.now c.deref-in-Match.result.now c.in-Match.scrutinee c.in-Match.rows
      c.in-Match.is c.deref-in-Match-2.ensures c.deref-in-Match.ensures.value)
      c.requires.rows c.requires.room,
)

pub end-choice-requires : goal.end-choice-requires
end-choice-requires t c = (
  search (rules, the_lemmas),
  choice_asked _ _ _ _ c.args.self.now.next
      (branch_is c.args.expr.now c.deref-in-If.result.now c.deref-in-If-2.result.now c.deref-in-If-3.result.now c.in-If.condition
      c.in-If.positive c.in-If.negative c.in-If.is c.deref-in-If.ensures c.deref-in-If-2.ensures c.deref-in-If-3.ensures)
      c.requires.rows c.requires.room,
)

pub end-case-requires : goal.end-case-requires
end-case-requires t c = (
  search (rules, the_lemmas),
  case_asked _ _ _ c.args.self.now.next
      (match_is c.args.expr.now c.deref-in-Match-2.result.now c.deref-in-Match.result.now c.in-Match.scrutinee c.in-Match.rows
      c.in-Match.is c.deref-in-Match-2.ensures c.deref-in-Match.ensures.value)
      c.requires.rows c.requires.room,
)

pub values-returns : goal.values-returns
values-returns t c =
    let all = trees_of (map expr_tree c.args.exprs.now) in
    values_done c.args.self.now c.loop-expr.self all c.loop-expr.variables.items
    (subst (λ (left : List Expr). ValuesSoFar (ground_program c.args.given.now).constructors c.args.self.now c.loop-expr.self
    (trees_of (map expr_tree left)) all c.loop-expr.variables.items)
    (drop_all c.loop-expr.expr-index c.args.exprs.now c.loop-expr-test.false) c.loop-expr.invariant)

pub statements-returns-clause-statements : goal.statements-returns-clause-statements
statements-returns-clause-statements t c =
    let all = map statement_tree c.args.statements.now in
    statements_done c.args.self.now c.loop-statement.self all
    (subst (λ (left : List Statement). StatementsSoFar (ground_program c.args.given.now).constructors c.args.self.now
    c.loop-statement.self (map statement_tree left) all)
    (drop_all c.loop-statement.statement-index c.args.statements.now c.loop-statement-test.false) c.loop-statement.invariant)
