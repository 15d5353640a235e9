use Rattle.std.proofs.Common.{◌≡◌, [], ◌∷◌, map, sym, ap, ◌∙◌, subst}
use Rattle.std.proofs.lemmas.List.{map-append}
use Rattle.kk_core.specs.Decisions.{node_tree}
use Rattle.kk_match.specs.InTurn.{with_rows}
use Rattle.kk_match.specs.Views.{line_tree, state_tree}
use Rattle.kk_match.proofs.RowOrder.{rows_push}
use Rattle.kk_match.proofs.in_turn.in_turn.Goals as goal

pub loop-line-preserved : goal.loop-line-preserved
loop-line-preserved c =
    let nodes = map node_tree c.loop-line.nodes.items in
    let all = with_rows (state_tree c.args.state) [] in
    let rest = map line_tree c.pop.new.self.items in
    let left = ap (map line_tree) c.in-Some.ensures.items ∙ map-append line_tree c.pop.new.self.items (c.in-Some.line ∷ []) in
    ap (with_rows rest) c.in_ok-add_row.ensures
    ∙ (sym (rows_push rest (line_tree c.in-Some.line) nodes) ∙ subst (λ lines. with_rows lines nodes ≡ all) left c.loop-line.invariant)
