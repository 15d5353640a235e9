use Rattle.std.proofs.Common.{rules, ◌≤◌, ◌+◌, true, false, [], map, get_or, drop, take, refl, ap, sym, ◌∙◌, subst, arith}
use Rattle.std.specs.Prelude.{Ok}
use Rattle.std.proofs.lemmas.List.{get_or_default, drop_all}
use Rattle.kk_syntax.specs.declared.program.Expr.TheViews.{the_lemmas}
use Rattle.kk_syntax.specs.Programs.{program_tree}
use Rattle.kk_syntax.specs.Trees.{expr_tree, row_tree, statement_tree, rows_of, trees_of}
use Rattle.kk_syntax.proofs.Views.{variable_tree, apply_is, branch_is, match_is, block_is}
use Rattle.kk_unify.specs.GraphOf.{graph_of, variables_of}
use Rattle.kk_walk.specs.declared.walk.Walk.{Walk}
use Rattle.kk_walk.specs.Claims.{expression_at, expressions_at}
use Rattle.kk_walk.specs.Steps.{nodes_of, size_of, Goes, Walked}
use Rattle.kk_walk.specs.Walks.{AreBelow, AreBoundBelow, Refused}
use Rattle.kk_walk.proofs.Forms.{in_scope, form_not_given, form_walked, condition_refused, positive_refused, branch_walked, scrutinee_refused, match_walked}
use Rattle.kk_walk.proofs.WalkComposition.{still_bound, goes_reworded}
use Rattle.kk_walk.proofs.ArgumentWalk.{left_of, too_many, argument_walked, argument_refused}
use Rattle.kk_walk.proofs.ClaimComposition.{below_more, bound_more}
use Rattle.kk_walk.proofs.StatementWalk.{into_first, none_stated, statement_refused, statement_walked, block_walked}
use Rattle.kk_walk.proofs.RowsOf.{cases_at, cases_done, pattern_fails, body_fails, row_goes}
use Rattle.kk_walk.proofs.walk.Walk.+walk.Goals as goal

pub arguments-returns-then-arguments-wants : goal.arguments-returns-then-arguments-wants
arguments-returns-then-arguments-wants t c =
    too_many (program_tree c.args.program.now) c.args.arguments.now c.args.wants.now (nodes_of c.args.self.now) c.args.self.now.scope.items c.if-arguments-wants.true

pub arguments-returns-then-not-ok : goal.arguments-returns-then-not-ok
arguments-returns-then-not-ok t c =
    let program = program_tree c.args.program.now in
    let a = c.args.self.now in
    let b = c.loop-index.self in
    let goes = c.loop-index.invariant in
    let e = c.index-arguments-index.result in
    let want = get_or c.args.wants.now c.loop-index.index 0 in
    let there = get_or_default c.args.wants.now c.loop-index.index 0 want (omega arith) in
    let walked = in_scope program b c.expression.new.self a.scope.items (expr_tree e) want (Ok false) goes.same_scope (rw c.if-not-ok.true at c.in_ok-ok.ensures) in
    argument_refused program c.args.arguments.now c.args.wants.now a b a.scope.items c.loop-index.index e want c.loop-index-test.true (omega arith) c.index-arguments-index.is there c.expression.new.self goes walked

pub arguments-loop-index-preserved : goal.arguments-loop-index-preserved
arguments-loop-index-preserved t c =
    let program = program_tree c.args.program.now in
    let a = c.args.self.now in
    let b = c.loop-index.self in
    let goes = c.loop-index.invariant in
    let bounds = a.scope.items in
    let e = c.index-arguments-index.result in
    let want = get_or c.args.wants.now c.loop-index.index 0 in
    let there = get_or_default c.args.wants.now c.loop-index.index 0 want (omega arith) in
    let walked = in_scope program b c.expression.new.self bounds (expr_tree e) want (Ok true) goes.same_scope (rw c.if-not-ok.false at c.in_ok-ok.ensures) in
    let bound = subst (AreBoundBelow (size_of b)) goes.same_scope (still_bound a b (left_of program c.args.arguments.now c.args.wants.now bounds 0) (left_of program c.args.arguments.now c.args.wants.now bounds c.loop-index.index) goes c.requires.scope) in
    argument_walked program c.args.arguments.now c.args.wants.now a b bounds c.loop-index.index e want c.loop-index-test.true (omega arith) c.index-arguments-index.is there
    bound (below_more (size_of a) (size_of b) c.args.wants.now goes.leads.longer c.requires.wants) c.expression.new.self goes walked

pub arguments-returns : goal.arguments-returns
arguments-returns t c =
    let program = program_tree c.args.program.now in
    let all = drop_all c.loop-index.index c.args.arguments.now c.loop-index-test.false in
    let whole = left_of program c.args.arguments.now c.args.wants.now c.args.self.now.scope.items 0 in
    let none = drop_all c.loop-index.index c.args.wants.now (omega (arith, c.if-arguments-wants.false, c.loop-index-test.false)) in
    subst (λ ws. Goes c.args.self.now c.loop-index.self whole (expressions_at program c.args.self.now.scope.items (trees_of []) ws)) none
    (subst (λ es. Goes c.args.self.now c.loop-index.self whole (expressions_at program c.args.self.now.scope.items (trees_of (map expr_tree es)) (drop c.loop-index.index c.args.wants.now))) all c.loop-index.invariant)

pub expression-returns-in-Variable : goal.expression-returns-in-Variable
expression-returns-in-Variable t c =
    subst (λ e. Walked c.args.self.now c.variable.new.self (expression_at (program_tree c.args.program.now) c.args.self.now.scope.items e c.args.want) c.variable.result) (sym (ap expr_tree c.in-Variable.is ∙ variable_tree c.in-Variable.variable)) c.variable.ensures

pub expression-returns-then-not-ok : goal.expression-returns-then-not-ok
expression-returns-then-not-ok t c =
    let program = program_tree c.args.program.now in
    let a = c.args.self.now in
    let tree_is = match_is c.args.expr.now c.deref.result.now c.in-Match.rows.items c.in-Match.scrutinee c.in-Match.rows c.in-Match.is c.deref.ensures refl in
    let walked = rw c.if-not-ok.true at c.in_ok-ok-in-Match.ensures in
    subst (λ e. Refused (nodes_of a) (expression_at program a.scope.items e c.args.want)) (sym tree_is)
    (scrutinee_refused program a c.args.want c.requires.scope c.requires.want (expr_tree c.deref.result.now) (rows_of (map row_tree c.in-Match.rows.items)) c.in_ok-node-in-Match.node c.take.new.self c.in_ok-node-in-Match.ensures c.expression.new.self walked)

pub expression-rows-requires : goal.expression-rows-requires
expression-rows-requires t c =
    let opened = c.in_ok-node-in-Match.ensures in
    let goes = rw c.if-not-ok.false at c.in_ok-ok-in-Match.ensures in
    let longer : size_of c.args.self.now ≤ size_of c.expression.new.self = omega (arith, opened.opens.longer, goes.leads.longer) in
    let scope = goes.same_scope ∙ opened.same_scope in (
      search (rules, the_lemmas),
      (
        subst (AreBoundBelow (size_of c.expression.new.self)) (sym scope) (bound_more (size_of c.args.self.now) (size_of c.expression.new.self) c.args.self.now.scope.items longer c.requires.scope),
        (omega (arith, opened.opens.inside 0 c.in_ok-node-in-Match.node (omega arith), goes.leads.longer), omega (arith, longer)),
      ),
    )

pub expression-returns-else-not-ok : goal.expression-returns-else-not-ok
expression-returns-else-not-ok t c =
    let program = program_tree c.args.program.now in
    let a = c.args.self.now in
    let tree_is = match_is c.args.expr.now c.deref.result.now c.deref-in-Match.result.now c.in-Match.scrutinee c.in-Match.rows c.in-Match.is c.deref.ensures c.deref-in-Match.ensures.value in
    let walked = rw c.if-not-ok.false at c.in_ok-ok-in-Match.ensures in
    subst (λ e. Walked a c.rows.new.self (expression_at program a.scope.items e c.args.want) c.rows.result) (sym tree_is)
    (match_walked program a c.args.want c.requires.scope c.requires.want (expr_tree c.deref.result.now) (rows_of (map row_tree c.deref-in-Match.result.now)) c.in_ok-node-in-Match.node c.take.new.self c.in_ok-node-in-Match.ensures c.expression.new.self c.rows.new.self c.rows.result walked c.rows.ensures)

pub expression-returns-then-not-ok-2 : goal.expression-returns-then-not-ok-2
expression-returns-then-not-ok-2 t c =
    let program = program_tree c.args.program.now in
    let a = c.args.self.now in
    let tree_is = apply_is c.args.expr.now c.in-Apply.form c.in-Apply.arguments c.in-Apply.arguments.items c.in-Apply.is refl in
    let made = rw c.in-Some.is at c.in_ok-instance-in-Apply.ensures in
    let walked = rw c.if-not-ok-2.true at c.in_ok-ok-in-Apply.ensures in
    subst (λ e. Refused (nodes_of a) (expression_at program a.scope.items e c.args.want)) (sym tree_is)
    (form_not_given program a c.args.want c.requires.scope c.requires.want c.in-Apply.form (trees_of (map expr_tree c.in-Apply.arguments.items)) c.form.new.self c.in-Some.instance made c.same.new.self walked)

pub expression-arguments-requires : goal.expression-arguments-requires
expression-arguments-requires t c =
    let made = rw c.in-Some.is at c.in_ok-instance-in-Apply.ensures in
    let goes = rw c.if-not-ok-2.false at c.in_ok-ok-in-Apply.ensures in
    let longer : size_of c.args.self.now ≤ size_of c.same.new.self = omega (arith, made.nodes.opens.longer, goes.leads.longer) in
    let scope = goes.same_scope ∙ made.same_scope in (
      search (rules, the_lemmas),
      (
        subst (AreBoundBelow (size_of c.same.new.self)) (sym scope) (bound_more (size_of c.args.self.now) (size_of c.same.new.self) c.args.self.now.scope.items longer c.requires.scope),
        subst (AreBelow (size_of c.same.new.self)) (sym c.deref-in-Apply-2.ensures.value) (below_more (size_of c.form.new.self) (size_of c.same.new.self) c.in-Some.instance.parameters.items goes.leads.longer made.nodes.takes_inside),
      ),
    )

pub expression-returns-else-not-ok-2 : goal.expression-returns-else-not-ok-2
expression-returns-else-not-ok-2 t c =
    let program = program_tree c.args.program.now in
    let a = c.args.self.now in
    let es = c.deref-in-Apply.result.now in
    let tree_is = apply_is c.args.expr.now c.in-Apply.form c.in-Apply.arguments es c.in-Apply.is c.deref-in-Apply.ensures.value in
    let made = rw c.in-Some.is at c.in_ok-instance-in-Apply.ensures in
    let given = rw c.if-not-ok-2.false at c.in_ok-ok-in-Apply.ensures in
    let walked = rw c.deref-in-Apply-2.ensures.value at c.arguments.ensures in
    subst (λ e. Walked a c.arguments.new.self (expression_at program a.scope.items e c.args.want) c.arguments.result) (sym tree_is)
    (form_walked program a c.args.want c.requires.scope c.requires.want c.in-Apply.form (trees_of (map expr_tree es)) c.form.new.self c.in-Some.instance made c.same.new.self c.arguments.new.self c.arguments.result given walked)

pub expression-returns-then-not-ok-3 : goal.expression-returns-then-not-ok-3
expression-returns-then-not-ok-3 t c =
    let program = program_tree c.args.program.now in
    let a = c.args.self.now in
    let x = c.deref-in-If.result.now in
    let tree_is = branch_is c.args.expr.now x c.in-If.positive.value c.in-If.negative.value c.in-If.condition c.in-If.positive c.in-If.negative c.in-If.is c.deref-in-If.ensures refl refl in
    let walked = rw c.if-not-ok-3.true at c.in_ok-ok-in-If.ensures in
    subst (λ e. Refused (nodes_of a) (expression_at program a.scope.items e c.args.want)) (sym tree_is)
    (condition_refused program a c.args.want c.requires.scope c.requires.want (expr_tree x) (expr_tree c.in-If.positive.value) (expr_tree c.in-If.negative.value) c.in_ok-truth-in-If.truth c.truth.new.self c.in_ok-truth-in-If.ensures c.expression-in-If.new.self walked)

pub expression-returns-then-not-ok-4 : goal.expression-returns-then-not-ok-4
expression-returns-then-not-ok-4 t c =
    let program = program_tree c.args.program.now in
    let a = c.args.self.now in
    let x = c.deref-in-If.result.now in
    let y = c.deref-in-If-2.result.now in
    let tree_is = branch_is c.args.expr.now x y c.in-If.negative.value c.in-If.condition c.in-If.positive c.in-If.negative c.in-If.is c.deref-in-If.ensures c.deref-in-If-2.ensures refl in
    let first = rw c.if-not-ok-3.false at c.in_ok-ok-in-If.ensures in
    let walked = rw c.if-not-ok-4.true at c.in_ok-ok-in-If-2.ensures in
    subst (λ e. Refused (nodes_of a) (expression_at program a.scope.items e c.args.want)) (sym tree_is)
    (positive_refused program a c.args.want c.requires.scope c.requires.want (expr_tree x) (expr_tree y) (expr_tree c.in-If.negative.value) c.in_ok-truth-in-If.truth c.truth.new.self c.in_ok-truth-in-If.ensures c.expression-in-If.new.self first c.expression-in-If-2.new.self walked)

pub expression-returns-else-not-ok-4 : goal.expression-returns-else-not-ok-4
expression-returns-else-not-ok-4 t c =
    let program = program_tree c.args.program.now in
    let a = c.args.self.now in
    let x = c.deref-in-If.result.now in
    let y = c.deref-in-If-2.result.now in
    let z = c.deref-in-If-3.result.now in
    let tree_is = branch_is c.args.expr.now x y z c.in-If.condition c.in-If.positive c.in-If.negative c.in-If.is c.deref-in-If.ensures c.deref-in-If-2.ensures c.deref-in-If-3.ensures in
    let first = rw c.if-not-ok-3.false at c.in_ok-ok-in-If.ensures in
    let second = rw c.if-not-ok-4.false at c.in_ok-ok-in-If-2.ensures in
    subst (λ e. Walked a c.expression-in-If-3.new.self (expression_at program a.scope.items e c.args.want) c.expression-in-If-3.result) (sym tree_is)
    (branch_walked program a c.args.want c.requires.scope c.requires.want (expr_tree x) (expr_tree y) (expr_tree z) c.in_ok-truth-in-If.truth c.truth.new.self c.in_ok-truth-in-If.ensures c.expression-in-If.new.self first c.expression-in-If-2.new.self c.expression-in-If-3.new.self c.expression-in-If-3.result second c.expression-in-If-3.ensures)

pub expression-statements-requires : goal.expression-statements-requires
expression-statements-requires t c = (search (rules, the_lemmas), c.requires.scope)

pub expression-returns-then-not-ok-5 : goal.expression-returns-then-not-ok-5
expression-returns-then-not-ok-5 t c =
    let program = program_tree c.args.program.now in
    let a = c.args.self.now in
    let tree_is = block_is c.args.expr.now c.in-Block.value.value c.deref-in-Block.result.now c.in-Block.statements c.in-Block.value c.in-Block.is c.deref-in-Block.ensures.value refl in
    let walked = rw c.if-not-ok-5.true at c.in_ok-ok-in-Block.ensures in
    subst (λ e. Refused (nodes_of a) (expression_at program a.scope.items e c.args.want)) (sym tree_is) (walked (expr_tree c.in-Block.value.value) c.args.want c.requires.want)

pub expression-returns-in_ok-ok-in-Block-2 : goal.expression-returns-in_ok-ok-in-Block-2
expression-returns-in_ok-ok-in-Block-2 t c =
    let program = program_tree c.args.program.now in
    let a = c.args.self.now in
    let b = c.statements.new.self in
    let d = c.expression-in-Block.new.self in
    let x = c.deref-in-Block-2.result.now in
    let all = c.deref-in-Block.result.now in
    let tree_is = block_is c.args.expr.now x all c.in-Block.statements c.in-Block.value c.in-Block.is c.deref-in-Block.ensures.value c.deref-in-Block-2.ensures in
    let into = rw c.if-not-ok-5.false at c.in_ok-ok-in-Block.ensures in
    let after : Walk = record d { scope = c.truncate.new.self } in
    subst (λ e. Walked a after (expression_at program a.scope.items e c.args.want) (Ok c.in_ok-ok-in-Block-2.ok)) (sym tree_is)
    (block_walked program a b d after (map statement_tree all) (expr_tree x) c.args.want c.in_ok-ok-in-Block-2.ok c.requires.want into c.in_ok-ok-in-Block-2.ensures refl refl refl (c.truncate.ensures.items ∙ ap (λ n. take n d.scope.items) (c.len-outer.ensures ∙ a.scope.ok.0)))

pub statements-loop-statement-init : goal.statements-loop-statement-init
statements-loop-statement-init t c = none_stated (program_tree c.args.program.now) c.args.self.now (map statement_tree c.args.statements.now) c.requires

pub statements-returns-then-not-ok : goal.statements-returns-then-not-ok
statements-returns-then-not-ok t c last want lt =
    statement_refused (program_tree c.args.program.now) c.args.self.now (map statement_tree c.args.statements.now) c.loop-statement.self c.take.new.self c.expression.new.self c.statement-item.result.binder (expr_tree c.statement-item.result.value) (map statement_tree (drop (c.loop-statement.statement-index + 1) c.args.statements.now)) c.in_ok-node.node
    (into_first (program_tree c.args.program.now) c.args.self.now (map statement_tree c.args.statements.now) c.loop-statement.self c.args.statements.now c.loop-statement.statement-index c.statement-item.result c.loop-statement-test.true c.statement-item.is c.loop-statement.invariant)
    c.in_ok-node.ensures last want lt (rw c.if-not-ok.true at c.in_ok-ok.ensures)

pub statements-loop-statement-preserved : goal.statements-loop-statement-preserved
statements-loop-statement-preserved t c =
    let program = program_tree c.args.program.now in
    let a = c.args.self.now in
    let b = c.loop-statement.self in
    let s = c.statement-item.result in
    let i = c.loop-statement.statement-index in
    let goes = into_first program a (map statement_tree c.args.statements.now) b c.args.statements.now i s c.loop-statement-test.true c.statement-item.is c.loop-statement.invariant in
    let walked = rw c.if-not-ok.false at c.in_ok-ok.ensures in
    statement_walked program a (map statement_tree c.args.statements.now) b c.take.new.self c.expression.new.self s.binder (expr_tree s.value) (map statement_tree (drop (i + 1) c.args.statements.now)) c.in_ok-node.node goes c.in_ok-node.ensures walked c.enter.new.self
    (ap graph_of c.in_ok-enter.ensures.graph) (ap variables_of c.in_ok-enter.ensures.graph) (ap (λ taken. taken.items) c.in_ok-enter.ensures.taken) c.in_ok-enter.ensures.scope

pub rows-loop-row-init : goal.rows-loop-row-init
rows-loop-row-init t c =
    let whole = cases_at (program_tree c.args.program.now) c.args.self.now.scope.items c.args.scrutinee c.args.want c.args.rows.now in
    goes_reworded c.args.self.now whole whole (λ r choices obeys met. met) (λ r choices obeys met. met)

pub rows-returns-then-not-ok : goal.rows-returns-then-not-ok
rows-returns-then-not-ok t c =
    pattern_fails (program_tree c.args.program.now) c.args.self.now c.loop-row.self _ c.args.rows.now c.loop-row.row-index c.row-item.result c.loop-row-test.true c.row-item.is c.args.scrutinee c.args.want c.requires.scope c.requires.scrutinee c.requires.want c.loop-row.invariant c.bind.new.self c.in_ok-bind.ensures c.pattern.new.self c.in_ok-ok.ok c.in_ok-ok.ensures c.if-not-ok.true

pub rows-returns-then-not-ok-2 : goal.rows-returns-then-not-ok-2
rows-returns-then-not-ok-2 t c =
    body_fails (program_tree c.args.program.now) c.args.self.now c.loop-row.self _ c.args.rows.now c.loop-row.row-index c.row-item.result c.loop-row-test.true c.row-item.is c.args.scrutinee c.args.want c.requires.scope c.requires.scrutinee c.requires.want c.loop-row.invariant c.bind.new.self c.in_ok-bind.ensures c.pattern.new.self c.in_ok-ok.ok c.in_ok-ok.ensures c.if-not-ok.false c.expression.new.self c.in_ok-ok-2.ok c.in_ok-ok-2.ensures c.if-not-ok-2.true

pub rows-loop-row-preserved : goal.rows-loop-row-preserved
rows-loop-row-preserved t c =
    let end : Walk = record c.expression.new.self { scope = c.truncate.new.self } in
    row_goes (program_tree c.args.program.now) c.args.self.now c.loop-row.self _ c.args.rows.now c.loop-row.row-index c.row-item.result c.loop-row-test.true c.row-item.is c.args.scrutinee c.args.want c.requires.scope c.requires.scrutinee c.requires.want c.loop-row.invariant c.bind.new.self c.in_ok-bind.ensures c.pattern.new.self c.in_ok-ok.ok c.in_ok-ok.ensures c.if-not-ok.false c.expression.new.self c.in_ok-ok-2.ok c.in_ok-ok-2.ensures c.if-not-ok-2.false end refl refl refl
    (c.truncate.ensures.items ∙ ap (λ n. take n c.expression.new.self.scope.items) (c.len-outer.ensures ∙ c.args.self.now.scope.ok.0))

pub rows-returns : goal.rows-returns
rows-returns t c =
    cases_done (program_tree c.args.program.now) c.args.self.now.scope.items c.args.scrutinee c.args.want c.args.self.now c.loop-row.self _ c.args.rows.now c.loop-row.row-index (omega (arith, c.loop-row-test.false)) c.loop-row.invariant
