use Rattle.std.proofs.Common.{◌≡◌, [], ◌∷◌, map, sym, ap, ◌∙◌, subst}
use Rattle.std.proofs.lemmas.List.{map-append}
use Rattle.kk_core.specs.Decisions.{node_tree}
use Rattle.kk_match.specs.InTurn.{with_parts, with_row}
use Rattle.kk_match.specs.Views.{part_of, line_tree}
use Rattle.kk_match.proofs.RowOrder.{parts_push}
use Rattle.kk_match.proofs.in_turn.add_row.Goals as goal

pub loop-question-preserved : goal.loop-question-preserved
loop-question-preserved c =
    let other = c.in_ok-other.other in
    let nodes = map node_tree c.loop-question.nodes.items in
    let all = with_row (line_tree c.args.line) (map node_tree c.args.nodes.now.items) in
    let rest = map (λ q. part_of q.now) c.pop.new.self.items in
    let left = ap (map (λ q. part_of q.now)) c.in-Some.ensures.items ∙ map-append (λ q. part_of q.now) c.pop.new.self.items (c.in-Some.question ∷ []) in
    ap (with_parts other rest) c.in_ok-add_part.ensures
    ∙ (sym (parts_push other rest (part_of c.in-Some.question.now) nodes) ∙ subst (λ qs. with_parts other qs nodes ≡ all) left c.loop-question.invariant)
