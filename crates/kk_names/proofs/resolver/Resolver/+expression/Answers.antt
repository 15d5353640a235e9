use Rattle.std.proofs.Common.{◌≡◌, ℕ, ◌+◌, max, Box, Global, Option, List, [], ◌∷◌, ◌++◌, length, map, take, drop, vec_len, refl, sym, ap, ◌∙◌, subst, arith}
use Rattle.std.specs.Prelude.{option_map}
use Rattle.std.proofs.lemmas.List.{map-append, drop_all}
use Rattle.std.proofs.lemmas.Result.{IfOk-weaker}
use Rattle.kk_syntax.specs.declared.program.Binder.TheVariants as OfBinder
use Rattle.kk_syntax.specs.declared.program.Expr.{Expr}
use Rattle.kk_syntax.specs.declared.program.Expr.TheVariants.{Block, Match}
use Rattle.kk_syntax.specs.declared.program.Form.TheVariants.{Unit as Nothing, Binary, Construct}
use Rattle.kk_syntax.specs.declared.program.Row.{Row, roll-Row}
use Rattle.kk_syntax.specs.Depths.{deepest, depth_of_pattern, surface_depth, surface_row_depth, surface_statement_depth, depth_of, depth_of_row, depth_of_statement}
use Rattle.kk_syntax.specs.Patterns.{pattern_tree}
use Rattle.kk_syntax.specs.declared.tree.SurfaceExpr.{SurfaceExpr}
use Rattle.kk_syntax.specs.declared.tree.SurfaceRow.{SurfaceRow}
use Rattle.kk_syntax.specs.Surface.{Written, Writtens, WrittenStatement, construct, both, either, branch, branch_alone, match, block_of, written, written_expr, written_statement, writtens_of, WrittenRow, WrittenRows, written_pattern, written_row, rows_of}
use Rattle.kk_syntax.proofs.Views.{apply_is, match_tree, block_tree, row_tree_is, statement_tree_is}
use Rattle.kk_syntax.specs.Trees as OfTree
use Rattle.kk_syntax.specs.Trees.{Tree, RowTree, StatementTree, expr_tree, row_tree, statement_tree, trees_of}
use Rattle.kk_names.specs.Expressions.{alone}
use Rattle.kk_names.specs.declared.resolver.Resolver.{Resolver}
use Rattle.kk_names.specs.declared.scope.Bound.{Bound}
use Rattle.kk_names.specs.Methods.{known_of, before_of, newest_first, choice_of, choice_depth, Resolves, ResolvesAll, ResolvesPattern, ResolvesRow, ResolvesStatement}
use Rattle.kk_names.specs.Tables.{meaning_in}
use Rattle.kk_names.proofs.Arguments.{AllSoFar, all_more, all_done, first_resolved, call_resolved, construct_resolved, dot_call_resolved}
use Rattle.kk_names.proofs.Depths.{more_below, some_depth, call_depth, construct_depth, row_depth, row_deep, match_deep, block_deep, pattern_below}
use Rattle.kk_names.proofs.ResolverStates.{binary_resolved, both_resolved, either_resolved, alone_resolved, branch_resolved}
use Rattle.kk_names.proofs.ResolverStates.{as_written}
use Rattle.kk_names.proofs.Rows.{RowsSoFar, rows_more, rows_done, row_resolved, match_resolved}
use Rattle.kk_names.proofs.Statements.{block_resolved, StatementsSoFar, statements_more, variable_statement}
use Rattle.kk_names.proofs.WrittenForms.{call_written, construct_written, binary_written, next_expr, next_statement, variable_written, row_written, next_row}
use Rattle.kk_names.proofs.resolver.Resolver.+expression.Goals as goal
use Rattle.kk_names.proofs.resolver.Resolver.+expression.Goals.{choice-in-Some+in_ok-negative-in-Some, choice-in-None}

pub expression-returns-in_ok-arguments-in-Call-clause-resolves : goal.expression-returns-in_ok-arguments-in-Call-clause-resolves
expression-returns-in_ok-arguments-in-Call-clause-resolves t c =
    let arguments = c.in_ok-arguments-in-Call.arguments in
    let counted : vec_len arguments ≡ length arguments.items = arguments.ok.0 in
    let es = writtens_of (map written_expr c.deref.result.now) in
    let means = c.meaning_in-callee.ensures ∙ ap (λ all. meaning_in all c.in-Call.name.name) c.as_slice.ensures.value in
    IfOk-weaker c.applied.result _ _
    (λ e made.
    as_written _ _ c.args.self.now c.applied.new.self (expr_tree e) (expr_tree e) (call_written c.args.expr.now c.in-Call.name c.in-Call.arguments c.deref.result.now c.in-Call.is c.deref.ensures.value) refl
    (call_resolved c.in-Call.name es c.meaning_in-callee.result c.args.self.now c.expressions.new.self c.applied.new.self arguments.items (vec_len arguments) (expr_tree e)
    c.in_ok-arguments-in-Call.ensures.resolves means made.0 counted made.1))
    c.applied.ensures.resolves

pub expression-returns-in_ok-arguments-in-Construct-clause-resolves : goal.expression-returns-in_ok-arguments-in-Construct-clause-resolves
expression-returns-in_ok-arguments-in-Construct-clause-resolves t c =
    let arguments = c.in_ok-arguments-in-Construct.arguments in
    let counted : vec_len arguments ≡ length arguments.items = arguments.ok.0 in
    let es = writtens_of (map written_expr c.deref-in-Construct.result.now) in
    let means = c.meaning_in-callee-in-Construct.ensures ∙ ap (λ all. meaning_in all c.in-Construct.name.name) c.as_slice-in-Construct.ensures.value in
    IfOk-weaker c.applied-in-Construct.result _ _
    (λ e made.
    as_written (written_expr c.args.expr.now) (construct c.in-Construct.name es) c.args.self.now c.applied-in-Construct.new.self (expr_tree e) (expr_tree e) (construct_written c.args.expr.now c.in-Construct.name c.in-Construct.arguments c.deref-in-Construct.result.now c.in-Construct.is c.deref-in-Construct.ensures.value) refl
    (construct_resolved c.in-Construct.name es c.meaning_in-callee-in-Construct.result c.args.self.now c.expressions-in-Construct.new.self c.applied-in-Construct.new.self arguments.items (vec_len arguments) (expr_tree e)
    c.in_ok-arguments-in-Construct.ensures.resolves means made.0 counted made.1))
    c.applied-in-Construct.ensures.resolves

pub expression-returns-in_ok-arguments-in-Binary-clause-resolves : goal.expression-returns-in_ok-arguments-in-Binary-clause-resolves
expression-returns-in_ok-arguments-in-Binary-clause-resolves t c =
    let left = c.in_ok-left-in-Binary.left in
    let right = c.in_ok-right-in-Binary.right in
    as_written _ _ c.args.self.now c.expression-in-Binary-2.new.self _ _ (binary_written c.args.expr.now c.in-Binary.operator c.in-Binary.left c.in-Binary.right c.deref-in-Binary.result.now c.deref-in-Binary-2.result.now c.in-Binary.is c.deref-in-Binary.ensures c.deref-in-Binary-2.ensures)
    (apply_is _ (Binary c.in-Binary.operator) c.in_ok-arguments-in-Binary.arguments (left ∷ right ∷ []) refl (sym c.in_ok-arguments-in-Binary.ensures.items))
    (binary_resolved c.in-Binary.operator _ _ c.args.self.now c.expression-in-Binary.new.self c.expression-in-Binary-2.new.self (expr_tree left) (expr_tree right) c.in_ok-left-in-Binary.ensures.resolves c.in_ok-right-in-Binary.ensures.resolves)

pub dot_call-returns-clause-resolves : goal.dot_call-returns-clause-resolves
dot_call-returns-clause-resolves t c =
    let arguments = c.insert.new.self in
    let counted : vec_len arguments ≡ length arguments.items = arguments.ok.0 in
    let first = c.in_ok-first.first in
    let others = c.in_ok-arguments.arguments.items in
    let name = c.args.name.now in
    let e = written_expr c.args.first.now in
    let es = writtens_of (map written_expr c.args.others.now) in
    let items : arguments.items ≡ first ∷ others = c.in_ok-insert.ensures.items in
    let all = subst (λ (xs : List Expr). ResolvesAll (written e es) c.args.self.now c.expressions.new.self (trees_of (map expr_tree xs))) (sym items)
    (first_resolved e es c.args.self.now c.expression.new.self c.expressions.new.self (expr_tree first) (map expr_tree others) c.in_ok-first.ensures.resolves c.in_ok-arguments.ensures.resolves) in
    let means = c.meaning_in-callee.ensures ∙ ap (λ all. meaning_in all name.name) c.as_slice.ensures.value in
    IfOk-weaker c.applied.result _ _
    (λ x made.
    dot_call_resolved e name es c.args.self.now c.applied.new.self (expr_tree x)
    (call_resolved name (written e es) c.meaning_in-callee.result c.args.self.now c.expressions.new.self c.applied.new.self arguments.items (vec_len arguments) (expr_tree x) all means made.0 counted made.1))
    c.applied.ensures.resolves

pub both-returns-clause-resolves : goal.both-returns-clause-resolves
both-returns-clause-resolves t c =
    let first = expr_tree c.in_ok-condition.condition in
    let second = expr_tree c.in_ok-positive.positive in
    let left = written_expr c.args.left.now in
    let right = written_expr c.args.right.now in
    IfOk-weaker c.conditional.result _ _
    (λ e made.
    as_written (both left right) (both left right) c.args.self.now c.expression-2.new.self (expr_tree e) (OfTree.branch first second (alone (Construct 0))) refl
    (made ∙ ap (OfTree.branch first second) c.alone-negative.ensures.tree)
    (both_resolved left right c.args.self.now c.expression.new.self c.expression-2.new.self first second c.in_ok-condition.ensures.resolves c.in_ok-positive.ensures.resolves))
    c.conditional.ensures.tree

pub either-returns-clause-resolves : goal.either-returns-clause-resolves
either-returns-clause-resolves t c =
    let first = expr_tree c.in_ok-condition.condition in
    let second = expr_tree c.in_ok-negative.negative in
    let left = written_expr c.args.left.now in
    let right = written_expr c.args.right.now in
    IfOk-weaker c.conditional.result _ _
    (λ e made.
    as_written (either left right) (either left right) c.args.self.now c.expression-2.new.self (expr_tree e) (OfTree.branch first (alone (Construct 1)) second) refl
    (made ∙ ap (λ b. OfTree.branch first b second) c.alone-positive.ensures.tree)
    (either_resolved left right c.args.self.now c.expression.new.self c.expression-2.new.self first second c.in_ok-condition.ensures.resolves c.in_ok-negative.ensures.resolves))
    c.conditional.ensures.tree

pub choice-returns-clause-resolves : goal.choice-returns-clause-resolves
choice-returns-clause-resolves t c =
    let first = expr_tree c.in_ok-condition.condition in
    let second = expr_tree c.in_ok-positive.positive in
    let third = expr_tree c.match-negative.negative in
    let e = written_expr c.args.condition.now in
    let p = written_expr c.args.positive.now in
    let chosen : Option (Box SurfaceExpr Global) → Written = λ o. choice_of e p (option_map (λ b. written_expr b.value) o) in
    elim c.match-negative.branch [
      | choice-in-Some+in_ok-negative-in-Some w ↦
          let n = written_expr w.deref.result.now in
          let is = ap chosen w.in-Some.is ∙ ap (λ x. branch e p (written_expr x)) (sym w.deref.ensures) in
          IfOk-weaker c.conditional.result _ _
          (λ x made.
          as_written (chosen c.args.negative.now) (branch e p n) c.args.self.now c.match-negative.self (expr_tree x) (OfTree.branch first second third) is made
          (subst (λ (r : Resolver). Resolves (branch e p n) c.args.self.now r (OfTree.branch first second third)) (sym w.self-is)
          (subst (λ (y : Expr). Resolves (branch e p n) c.args.self.now w.expression-in-Some.new.self (OfTree.branch first second (expr_tree y))) (sym w.negative-is)
          (branch_resolved e p n c.args.self.now c.expression.new.self c.expression-2.new.self w.expression-in-Some.new.self first second (expr_tree w.in_ok-negative-in-Some.negative) c.in_ok-condition.ensures.resolves c.in_ok-positive.ensures.resolves w.in_ok-negative-in-Some.ensures.resolves))))
          c.conditional.ensures.tree
      | choice-in-None w ↦
          IfOk-weaker c.conditional.result _ _
          (λ x made.
          as_written (chosen c.args.negative.now) (branch_alone e p) c.args.self.now c.match-negative.self (expr_tree x) (OfTree.branch first second (alone Nothing))
          (ap chosen w.in-None.is)
          (made ∙ ap (OfTree.branch first second) (ap expr_tree w.negative-is ∙ w.alone-negative.ensures.tree))
          (subst (λ (r : Resolver). Resolves (branch_alone e p) c.args.self.now r (OfTree.branch first second (alone Nothing))) (sym w.self-is)
          (alone_resolved e p c.args.self.now c.expression.new.self c.expression-2.new.self first second c.in_ok-condition.ensures.resolves c.in_ok-positive.ensures.resolves)))
          c.conditional.ensures.tree
    ]

pub block-returns-clause-resolves : goal.block-returns-clause-resolves
block-returns-clause-resolves t c =
    let old = c.args.self.now in
    let new : Resolver = record { alloc = c.expression.new.self.alloc; types = c.expression.new.self.types; constructors = c.expression.new.self.constructors; functions = c.expression.new.self.functions; scope = c.truncate.new.self; next = c.expression.new.self.next; texts = c.expression.new.self.texts; first = c.expression.new.self.first } in
    let statements = map written_statement c.args.statements.now in
    let last = written_expr c.args.value.now in
    let made = map statement_tree c.in_ok-statements.statements.items in
    let outer : c.len-outer.result ≡ length old.scope.items = c.len-outer.ensures ∙ old.scope.ok.0 in
    let back = c.truncate.ensures.items ∙ ap (λ n. take n c.expression.new.self.scope.items) outer in
    as_written (block_of statements last) (block_of statements last) old new (expr_tree (Block c.in_ok-statements.statements c.in_ok-new.field-0)) (OfTree.block_of made (expr_tree c.in_ok-value.value)) refl
    (block_tree c.in_ok-statements.statements c.in_ok-new.field-0 ∙ ap (λ e. OfTree.block_of made (expr_tree e)) c.in_ok-new.ensures.ok)
    (block_resolved statements last old c.statements.new.self c.expression.new.self new made (expr_tree c.in_ok-value.value)
    (c.in_ok-statements.ensures.resolves last) c.in_ok-statements.ensures.scope c.in_ok-value.ensures.resolves refl back refl refl)

pub expressions-loop-expr-preserved : goal.expressions-loop-expr-preserved
expressions-loop-expr-preserved t c =
    let left = writtens_of (map written_expr (drop (c.loop-expr.expr-index + 1) c.args.exprs.now)) in
    let all = writtens_of (map written_expr c.args.exprs.now) in
    let e = written_expr c.expr-item.result in
    let items : c.push.new.self.items ≡ c.loop-expr.resolved.items ++ c.in_ok-e.e ∷ [] = c.in_ok-push.ensures.items in
    let trees = ap (map expr_tree) items ∙ map-append expr_tree c.loop-expr.resolved.items (c.in_ok-e.e ∷ []) in (
      subst (λ (ts : List Tree). AllSoFar c.args.self.now c.expression.new.self left all ts) (sym trees)
          (all_more c.args.self.now c.loop-expr.self c.expression.new.self e left all (map expr_tree c.loop-expr.resolved.items) (expr_tree c.in_ok-e.e)
          (subst (λ (es : Writtens). AllSoFar c.args.self.now c.loop-expr.self es all (map expr_tree c.loop-expr.resolved.items)) (next_expr c.args.exprs.now c.loop-expr.expr-index c.expr-item.result c.expr-item.is c.loop-expr-test.true) c.loop-expr.invariant.0)
          c.in_ok-e.ensures.resolves),
      more_below depth_of surface_depth c.loop-expr.resolved.items c.push.new.self.items c.in_ok-e.e c.args.exprs.now c.loop-expr.expr-index c.expr-item.result items c.expr-item.is c.loop-expr-test.true c.loop-expr.invariant.1 c.in_ok-e.ensures.depth,
    )

pub expressions-returns-clause-resolves : goal.expressions-returns-clause-resolves
expressions-returns-clause-resolves t c =
    let all = writtens_of (map written_expr c.args.exprs.now) in
    all_done c.args.self.now c.loop-expr.self all (map expr_tree c.loop-expr.resolved.items)
    (subst (λ (es : List SurfaceExpr). AllSoFar c.args.self.now c.loop-expr.self (writtens_of (map written_expr es)) all (map expr_tree c.loop-expr.resolved.items)) (drop_all c.loop-expr.expr-index c.args.exprs.now c.loop-expr-test.false) c.loop-expr.invariant.0)

pub statement-returns-in_ok-bind-in-Variable-clause-resolves : goal.statement-returns-in_ok-bind-in-Variable-clause-resolves
statement-returns-in_ok-bind-in-Variable-clause-resolves t c =
    let s = c.args.statement.now in
    let number = c.in_ok-number-in-Variable.number in
    let made = statement_tree_is (record { binder = OfBinder.Variable number; value = c.in_ok-value-in-Variable.value }) in
    subst (λ (x : StatementTree). ResolvesStatement (written_statement s) c.args.self.now c.bind.new.self x) (sym made)
    (variable_statement (written_statement s) c.in-Variable.name number (written_expr s.value) c.args.self.now c.number.new.self c.expression-in-Variable.new.self c.bind.new.self (record { binder = OfBinder.Variable number; value = expr_tree c.in_ok-value-in-Variable.value })
    (variable_written s c.in-Variable.name s.value c.in-Variable.is refl)
    c.in_ok-number-in-Variable.ensures.number c.in_ok-number-in-Variable.ensures.before c.in_ok-number-in-Variable.ensures.known c.in_ok-number-in-Variable.ensures.scope c.in_ok-number-in-Variable.ensures.first
    c.in_ok-value-in-Variable.ensures.resolves c.in_ok-bind-in-Variable.ensures refl)

pub statements-loop-statement-preserved : goal.statements-loop-statement-preserved
statements-loop-statement-preserved t c =
    let left = map written_statement (drop (c.loop-statement.statement-index + 1) c.args.statements.now) in
    let all = map written_statement c.args.statements.now in
    let s = written_statement c.statement-item.result in
    let made = c.loop-statement.resolved.items in
    let items : c.push.new.self.items ≡ made ++ c.in_ok-s.s ∷ [] = c.in_ok-push.ensures.items in
    let trees = ap (map statement_tree) items ∙ map-append statement_tree made (c.in_ok-s.s ∷ []) in (
      subst (λ (ts : List StatementTree). StatementsSoFar c.args.self.now c.statement.new.self left all ts) (sym trees)
          (statements_more c.args.self.now c.loop-statement.self c.statement.new.self s left all (map statement_tree made) (statement_tree c.in_ok-s.s)
          (subst (λ (ss : List WrittenStatement). StatementsSoFar c.args.self.now c.loop-statement.self ss all (map statement_tree made)) (next_statement c.args.statements.now c.loop-statement.statement-index c.statement-item.result c.statement-item.is c.loop-statement-test.true) c.loop-statement.invariant.0)
          c.in_ok-s.ensures.resolves),
      more_below depth_of_statement surface_statement_depth made c.push.new.self.items c.in_ok-s.s c.args.statements.now c.loop-statement.statement-index c.statement-item.result items c.statement-item.is c.loop-statement-test.true c.loop-statement.invariant.1 c.in_ok-s.ensures.depth,
    )

pub matching-returns-clause-resolves : goal.matching-returns-clause-resolves
matching-returns-clause-resolves t c =
    let scrutinee = c.in_ok-scrutinee.scrutinee in
    let rows = c.in_ok-rows.rows in
    let e = written_expr c.args.scrutinee.now in
    let rs = rows_of (map written_row c.args.rows.now) in
    let made = OfTree.rows_of (map row_tree rows.items) in
    as_written (match e rs) (match e rs) c.args.self.now c.rows.new.self (expr_tree (Match c.in_ok-new.field-0 rows)) (OfTree.match (expr_tree scrutinee) made) refl
    (match_tree c.in_ok-new.field-0 rows ∙ ap (λ x. OfTree.match (expr_tree x) made) c.in_ok-new.ensures.ok)
    (match_resolved e rs c.args.self.now c.expression.new.self c.rows.new.self (expr_tree scrutinee) made c.in_ok-scrutinee.ensures.resolves c.in_ok-rows.ensures.resolves)

pub rows-loop-row-preserved : goal.rows-loop-row-preserved
rows-loop-row-preserved t c =
    let old = c.args.self.now in
    let now = c.loop-row.self in
    let left = rows_of (map written_row (drop (c.loop-row.row-index + 1) c.args.rows.now)) in
    let all = rows_of (map written_row c.args.rows.now) in
    let r = written_row c.row-item.result in
    let made = c.loop-row.resolved.items in
    let items : c.push.new.self.items ≡ made ++ c.in_ok-r.r ∷ [] = c.in_ok-push.ensures.items in
    let trees = ap (map row_tree) items ∙ map-append row_tree made (c.in_ok-r.r ∷ []) in
    let next = next_row c.args.rows.now c.loop-row.row-index c.row-item.result c.row-item.is c.loop-row-test.true in (
      subst (λ (ts : List RowTree). RowsSoFar old c.row.new.self left all ts) (sym trees)
          (rows_more old now c.row.new.self r left all (map row_tree made) (row_tree c.in_ok-r.r)
          (subst (λ (rs : WrittenRows). RowsSoFar old now rs all (map row_tree made)) next c.loop-row.invariant.0)
          c.in_ok-r.ensures.resolves),
      more_below depth_of_row surface_row_depth made c.push.new.self.items c.in_ok-r.r c.args.rows.now c.loop-row.row-index c.row-item.result items c.row-item.is c.loop-row-test.true c.loop-row.invariant.1 c.in_ok-r.ensures.depth,
    )

pub rows-returns-clause-resolves : goal.rows-returns-clause-resolves
rows-returns-clause-resolves t c =
    let old = c.args.self.now in
    let now = c.loop-row.self in
    let all = rows_of (map written_row c.args.rows.now) in
    let made = map row_tree c.loop-row.resolved.items in
    rows_done old now all made
    (subst (λ (rs : List SurfaceRow). RowsSoFar old now (rows_of (map written_row rs)) all made)
    (drop_all c.loop-row.row-index c.args.rows.now c.loop-row-test.false) c.loop-row.invariant.0)

pub row-returns-clause-resolves : goal.row-returns-clause-resolves
row-returns-clause-resolves t c =
    let old = c.args.self.now in
    let r = c.args.row.now in
    let matched = c.pattern.new.self in
    let valued = c.expression.new.self in
    let bound = c.pattern.new.bound.items in
    let seen : Resolver = record { alloc = matched.alloc; types = matched.types; constructors = matched.constructors; functions = matched.functions; scope = c.append.new.self; next = matched.next; texts = matched.texts; first = matched.first } in
    let new : Resolver = record { alloc = valued.alloc; types = valued.types; constructors = valued.constructors; functions = valued.functions; scope = c.truncate.new.self; next = valued.next; texts = valued.texts; first = valued.first } in
    let made : Row = roll-Row (record { pattern = c.in_ok-pattern.pattern; body = c.in_ok-body.body }) in
    let p = written_pattern r.pattern in
    let body = written_expr r.body in
    let t = pattern_tree c.in_ok-pattern.pattern in
    let e = expr_tree c.in_ok-body.body in
    let one = subst (λ (fresh : List Bound). ResolvesPattern p old matched (newest_first fresh) (newest_first bound) t) c.new-bound.ensures.items c.in_ok-pattern.ensures in
    let before : c.len-before.result ≡ length old.scope.items = c.len-before.ensures ∙ old.scope.ok.0 in
    let back = c.truncate.ensures.items ∙ ap (λ n. take n valued.scope.items) before in
    subst (λ (w : WrittenRow). ResolvesRow w old new (row_tree made)) (sym (row_written r))
    (subst (λ (x : RowTree). ResolvesRow (record { pattern = p; body = body }) old new x) (sym (row_tree_is made))
    (row_resolved p body old matched seen valued new bound t e one refl c.in_ok-append.ensures.items refl refl c.in_ok-body.ensures.resolves refl back refl refl))

pub expression-returns-in_ok-arguments-in-Call-clause-depth : goal.expression-returns-in_ok-arguments-in-Call-clause-depth
expression-returns-in_ok-arguments-in-Call-clause-depth t c =
    let is = call_depth c.args.expr.now c.in-Call.name c.in-Call.arguments c.deref.result.now c.in-Call.is c.deref.ensures.value in
    IfOk-weaker c.applied.result _ _ (λ e made. omega (arith, made, is, c.in_ok-arguments-in-Call.ensures.depth)) c.applied.ensures.depth

pub expression-returns-in_ok-arguments-in-Construct-clause-depth : goal.expression-returns-in_ok-arguments-in-Construct-clause-depth
expression-returns-in_ok-arguments-in-Construct-clause-depth t c =
    let is = construct_depth c.args.expr.now c.in-Construct.name c.in-Construct.arguments c.deref-in-Construct.result.now c.in-Construct.is c.deref-in-Construct.ensures.value in
    IfOk-weaker c.applied-in-Construct.result _ _ (λ e made. omega (arith, made, is, c.in_ok-arguments-in-Construct.ensures.depth)) c.applied-in-Construct.ensures.depth

pub dot_call-returns-clause-depth : goal.dot_call-returns-clause-depth
dot_call-returns-clause-depth t c =
    let items : c.insert.new.self.items ≡ c.in_ok-first.first ∷ c.in_ok-arguments.arguments.items = c.in_ok-insert.ensures.items in
    let all = ap (λ xs. deepest (map depth_of xs)) items in
    IfOk-weaker c.applied.result _ _ (λ e made. omega (arith, made, all, c.in_ok-first.ensures.depth, c.in_ok-arguments.ensures.depth)) c.applied.ensures.depth

pub both-returns-clause-depth : goal.both-returns-clause-depth
both-returns-clause-depth t c =
    IfOk-weaker c.conditional.result _ _
    (λ e made. omega (arith, made, c.in_ok-condition.ensures.depth, c.in_ok-positive.ensures.depth, c.alone-negative.ensures.depth, some_depth c.args.left.now))
    c.conditional.ensures.depth

pub either-returns-clause-depth : goal.either-returns-clause-depth
either-returns-clause-depth t c =
    IfOk-weaker c.conditional.result _ _
    (λ e made. omega (arith, made, c.in_ok-condition.ensures.depth, c.in_ok-negative.ensures.depth, c.alone-positive.ensures.depth, some_depth c.args.left.now))
    c.conditional.ensures.depth

pub choice-returns-clause-depth : goal.choice-returns-clause-depth
choice-returns-clause-depth t c =
    let a = surface_depth c.args.condition.now in
    let b = surface_depth c.args.positive.now in
    let chosen : Option (Box SurfaceExpr Global) → ℕ = λ o. choice_depth a b (option_map (λ x. surface_depth x.value) o) in
    elim c.match-negative.branch [
      | choice-in-Some+in_ok-negative-in-Some w ↦
          let is = ap chosen w.in-Some.is ∙ ap (λ x. max a (max b (surface_depth x)) + 1) (sym w.deref.ensures) in
          IfOk-weaker c.conditional.result _ _
          (λ x made. omega (arith, made, is, ap depth_of w.negative-is, c.in_ok-condition.ensures.depth, c.in_ok-positive.ensures.depth, w.in_ok-negative-in-Some.ensures.depth))
          c.conditional.ensures.depth
      | choice-in-None w ↦
          let is = ap chosen w.in-None.is in
          IfOk-weaker c.conditional.result _ _
          (λ x made. omega (arith, made, is, ap depth_of w.negative-is, w.alone-negative.ensures.depth, c.in_ok-condition.ensures.depth, c.in_ok-positive.ensures.depth, some_depth c.args.condition.now))
          c.conditional.ensures.depth
    ]

pub block-returns-clause-depth : goal.block-returns-clause-depth
block-returns-clause-depth t c =
    omega (arith, block_deep c.in_ok-statements.statements c.in_ok-new.field-0, ap depth_of c.in_ok-new.ensures.ok, c.in_ok-statements.ensures.depth, c.in_ok-value.ensures.depth)

pub matching-returns-clause-depth : goal.matching-returns-clause-depth
matching-returns-clause-depth t c =
    omega (arith, match_deep c.in_ok-new.field-0 c.in_ok-rows.rows, ap depth_of c.in_ok-new.ensures.ok, c.in_ok-scrutinee.ensures.depth, c.in_ok-rows.ensures.depth)

pub expressions-returns-clause-depth : goal.expressions-returns-clause-depth
expressions-returns-clause-depth t c = c.loop-expr.invariant.1

pub statements-returns-clause-depth : goal.statements-returns-clause-depth
statements-returns-clause-depth t c = c.loop-statement.invariant.1

pub rows-returns-clause-depth : goal.rows-returns-clause-depth
rows-returns-clause-depth t c = c.loop-row.invariant.1

pub row-returns-clause-depth : goal.row-returns-clause-depth
row-returns-clause-depth t c =
    let made : Row = roll-Row (record { pattern = c.in_ok-pattern.pattern; body = c.in_ok-body.body }) in
    let old = c.args.self.now in
    let p = written_pattern c.args.row.now.pattern in
    let pattern = ap depth_of_pattern c.in_ok-pattern.ensures.tree_is in
    omega (arith, row_deep made, row_depth c.args.row.now, pattern, pattern_below (known_of old) (before_of old) p, c.in_ok-body.ensures.depth)
