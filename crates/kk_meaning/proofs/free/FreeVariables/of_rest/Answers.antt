use Rattle.std.proofs.Common.{◌≡◌, ◌++◌, List, ℕ, map, sym, ap, ◌∙◌}
use Rattle.kk_syntax.specs.Trees.{expr_tree, statement_tree}
use Rattle.kk_syntax.specs.Shapes.{without, free}
use Rattle.kk_meaning.specs.Frames.{block_tree}
use Rattle.kk_meaning.specs.FreeOf.{free_of_statements, bound_by_statements}
use Rattle.kk_meaning.proofs.FreeVariables.{free_of_block, found_block}
use Rattle.kk_meaning.proofs.free.FreeVariables.of_rest.Goals as goal

pub returns-clause-found : goal.returns-clause-found
returns-clause-found c =
    let old = c.args.self.now in
    let first = c.bind_awaited.new.bound.items in
    let middle = c.of_statements.new.self in
    let ss = map statement_tree c.args.rest.statements.now in
    let last = free (expr_tree c.args.rest.value.now) in
    let now : c.of_expr.new.self.found.items ≡ middle.found.items ++ without (first ++ bound_by_statements ss) last =
    c.in_ok-of_expr.ensures.found ∙ ap (λ (bs : List ℕ). middle.found.items ++ without bs last) c.in_ok-of_statements.ensures.bound in
    let whole = free_of_block ss (expr_tree c.args.rest.value.now) in
    found_block old.found.items middle.found.items _ first (free_of_statements ss) (bound_by_statements ss) last c.in_ok-of_statements.ensures.found now
    ∙ (ap (λ (xs : List ℕ). old.found.items ++ without first xs) (sym whole)
    ∙ ap (λ (bs : List ℕ). old.found.items ++ without bs (free (block_tree c.args.rest))) c.in_ok-bind_awaited.ensures)
