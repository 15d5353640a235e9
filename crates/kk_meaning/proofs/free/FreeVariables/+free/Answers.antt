use Rattle.std.proofs.Common.{◌≡◌, ◌+◌, ◌++◌, List, ℕ, map, drop, arith, sym, ap, ◌∙◌, append_assoc}
use Rattle.kk_syntax.specs.Patterns.{pattern_tree}
use Rattle.kk_syntax.specs.Trees.{expr_tree, row_tree, rows_of, statement_tree}
use Rattle.kk_syntax.specs.Shapes.{bound, bound_by, without, free, free_rows}
use Rattle.kk_syntax.proofs.ProgramTrees.{next_row, next_statement}
use Rattle.kk_syntax.proofs.Views.{block_tree}
use Rattle.kk_meaning.specs.FreeOf.{free_of_statements, bound_by_statements}
use Rattle.kk_meaning.proofs.FreeVariables.{free_of_block, found_within, found_before, found_block}
use Rattle.kk_meaning.proofs.Lists.{front_again}
use Rattle.kk_meaning.proofs.free.FreeVariables.+free.Goals as goal

pub of_expr-returns-in_ok-of_expr-in-Block-clause-found :
    goal.of_expr-returns-in_ok-of_expr-in-Block-clause-found
of_expr-returns-in_ok-of_expr-in-Block-clause-found t c =
    let old = c.args.self.now in
    let middle = c.of_statements.new.self in
    let ss = map statement_tree c.in-Block.statements.items in
    let last = expr_tree c.in-Block.value.value in
    let statements_are = ap (map statement_tree) c.deref-in-Block.ensures.value in
    let bound_is : middle.bound.items ≡ old.bound.items ++ bound_by_statements ss =
    c.in_ok-of_statements-in-Block.ensures.bound ∙ ap (λ ts. old.bound.items ++ bound_by_statements ts) statements_are in
    let found_is : middle.found.items ≡ old.found.items ++ without old.bound.items (free_of_statements ss) =
    c.in_ok-of_statements-in-Block.ensures.found ∙ ap (λ ts. old.found.items ++ without old.bound.items (free_of_statements ts)) statements_are in
    let now_is : c.of_expr-in-Block.new.self.found.items ≡ middle.found.items ++ without (old.bound.items ++ bound_by_statements ss) (free last) =
    c.in_ok-of_expr-in-Block.ensures.found
    ∙ (ap (λ bs. middle.found.items ++ without bs (free (expr_tree c.deref-in-Block-2.result.now))) bound_is
    ∙ ap (λ e. middle.found.items ++ without (old.bound.items ++ bound_by_statements ss) (free (expr_tree e))) c.deref-in-Block-2.ensures) in
    let whole : free (expr_tree c.args.expr.now) ≡ free_of_statements ss ++ without (bound_by_statements ss) (free last) =
    ap (λ e. free (expr_tree e)) c.in-Block.is
    ∙ (ap free (block_tree c.in-Block.statements c.in-Block.value) ∙ free_of_block ss last) in
    found_block old.found.items middle.found.items _ old.bound.items (free_of_statements ss) (bound_by_statements ss) (free last) found_is now_is
    ∙ ap (λ (xs : List ℕ). old.found.items ++ without old.bound.items xs) (sym whole)

pub of_rows-loop-row-preserved : goal.of_rows-loop-row-preserved
of_rows-loop-row-preserved t c =
    let now = c.loop-row.self in
    let row = c.row-item.result in
    let inv = c.loop-row.invariant in
    let rest = next_row c.args.rows.now c.loop-row.row-index row c.row-item.is (omega arith) in
    let bs = now.bound.items in
    let cs = bound (pattern_tree row.pattern) in
    let others = free_rows (rows_of (map row_tree (drop (c.loop-row.row-index + 1) c.args.rows.now))) in
    let kept : c.truncate.new.self.items ≡ bs =
    c.truncate.ensures.items
    ∙ front_again bs cs _ c.len-outside.result (c.len-outside.ensures ∙ now.bound.ok.0) (c.in_ok-of_expr.ensures.bound ∙ c.in_ok-bind_pattern.ensures) in
    let more : c.of_expr.new.self.found.items ≡ now.found.items ++ without (bs ++ cs) (free (expr_tree row.body)) =
    c.in_ok-of_expr.ensures.found
    ∙ ap (λ l. now.found.items ++ without l (free (expr_tree row.body))) c.in_ok-bind_pattern.ensures in
    record {
      bound = kept ∙ inv.bound;
      found =
          ap (λ l. c.of_expr.new.self.found.items ++ without l others) kept
          ∙ found_within now.found.items _ bs cs (free (expr_tree row.body)) others _ more
          (ap (λ left. now.found.items ++ without bs (free_rows left)) (sym rest) ∙ inv.found);
    }

pub of_statements-loop-statement-preserved : goal.of_statements-loop-statement-preserved
of_statements-loop-statement-preserved t c =
    let now = c.loop-statement.self in
    let statement = c.statement-item.result in
    let inv = c.loop-statement.invariant in
    let later = map statement_tree (drop (c.loop-statement.statement-index + 1) c.args.statements.now) in
    let rest = next_statement c.args.statements.now c.loop-statement.statement-index statement c.statement-item.is (omega arith) in
    let bs = now.bound.items in
    let cs = bound_by statement.binder in
    let bound_is : c.bind_statement.new.bound.items ≡ bs ++ cs =
    c.in_ok-bind_statement.ensures ∙ ap (λ l. l ++ cs) c.in_ok-of_expr.ensures.bound in
    record {
      bound =
          ap (λ l. l ++ bound_by_statements later) bound_is
          ∙ (append_assoc bs cs (bound_by_statements later)
          ∙ (ap (λ left. bs ++ bound_by_statements left) (sym rest) ∙ inv.bound));
      found =
          ap (λ l. c.of_expr.new.self.found.items ++ without l (free_of_statements later)) bound_is
          ∙ found_before now.found.items _ bs cs (free (expr_tree statement.value)) (free_of_statements later) _ c.in_ok-of_expr.ensures.found
          (ap (λ left. now.found.items ++ without bs (free_of_statements left)) (sym rest) ∙ inv.found);
    }
