use Rattle.std.proofs.Common.{◌≡◌, ◌++◌, List, map, sym, ap, ◌∙◌, append_assoc}
use Rattle.std.proofs.lemmas.List.{map-append}
use Rattle.kk_syntax.specs.Trees.{expr_tree, trees_of, row_tree, rows_of}
use Rattle.kk_syntax.specs.Shapes.{free, free_all, free_rows}
use Rattle.kk_source.specs.State.{Value}
use Rattle.kk_source.specs.Live.{value_of, held}
use Rattle.kk_meaning.specs.View.{value_view, environment_of}
use Rattle.kk_meaning.specs.Frames.{frame_view}
use Rattle.kk_meaning.proofs.FreeVariables.{found_plain, found_two, on_ok}
use Rattle.kk_meaning.proofs.held.hold_frame.Goals as goal

pub returns-in-Arguments : goal.returns-in-Arguments
returns-in-Arguments c =
    let links = c.args.bindings.now.links.items in
    let old = map value_view c.args.values.now.items in
    let look = value_of (environment_of links c.in-Arguments.environment) in
    let left = free_all (trees_of (map expr_tree c.in-Arguments.left.now)) in
    let computed = map value_view c.in-Arguments.computed.items in
    let found = c.deref-in-Arguments.ensures.value ∙ found_plain _ _ _ left c.new-free.ensures.found c.new-free.ensures.bound c.in_ok-of_each-in-Arguments.ensures.found in
    let kept : map value_view c.extend_from_slice.new.self.items ≡ old ++ computed =
    ap (map value_view) (c.in_ok-extend_from_slice-in-Arguments.ensures.items ∙ ap (λ l. c.args.values.now.items ++ l) c.deref.ensures.value)
    ∙ map-append value_view c.args.values.now.items c.in-Arguments.computed.items in
    on_ok c.hold_variables.result
    (λ is.
    is ∙ (ap (λ (l : List Value). l ++ map look c.deref-in-Arguments.result.now) kept
    ∙ (ap (λ l. (old ++ computed) ++ map look l) found
    ∙ (append_assoc old computed (map look left)
    ∙ ap (λ f. old ++ held (frame_view links f)) (sym c.in-Arguments.is)))))
    c.hold_variables.ensures

pub returns-in-Branches : goal.returns-in-Branches
returns-in-Branches c =
    let links = c.args.bindings.now.links.items in
    let old = map value_view c.args.values.now.items in
    let look = value_of (environment_of links c.in-Branches.environment) in
    let found =
    c.deref-in-Branches.ensures.value
    ∙ found_two _ _ _ _ (free (expr_tree c.in-Branches.positive.now)) (free (expr_tree c.in-Branches.negative.now)) _ c.new-free.ensures.found c.new-free.ensures.bound c.in_ok-of_expr-in-Branches.ensures.bound c.in_ok-of_expr-in-Branches.ensures.found c.in_ok-of_expr-in-Branches-2.ensures.found in
    on_ok c.hold_variables-in-Branches.result
    (λ is. is ∙ (ap (λ l. old ++ map look l) found ∙ ap (λ f. old ++ held (frame_view links f)) (sym c.in-Branches.is)))
    c.hold_variables-in-Branches.ensures

pub returns-in-Rows : goal.returns-in-Rows
returns-in-Rows c =
    let links = c.args.bindings.now.links.items in
    let old = map value_view c.args.values.now.items in
    let look = value_of (environment_of links c.in-Rows.environment) in
    let found = c.deref-in-Rows.ensures.value ∙ found_plain _ _ _ (free_rows (rows_of (map row_tree c.in-Rows.rows.now))) c.new-free.ensures.found c.new-free.ensures.bound c.in_ok-of_rows-in-Rows.ensures.found in
    on_ok c.hold_variables-in-Rows.result
    (λ is. is ∙ (ap (λ l. old ++ map look l) found ∙ ap (λ f. old ++ held (frame_view links f)) (sym c.in-Rows.is)))
    c.hold_variables-in-Rows.ensures
