use Rattle.std.proofs.Common.{[], map, ap, ◌∙◌}
use Rattle.kk_syntax.specs.Patterns.{pattern_tree}
use Rattle.kk_match.specs.InTurn.{with_rows}
use Rattle.kk_match.specs.Parts.{types_of}
use Rattle.kk_match.specs.Views.{part_of}
use Rattle.kk_match.proofs.NodeDecisions.{also, state_of_rows}
use Rattle.kk_match.proofs.deciding.rows_one_by_one.Goals as goal

pub returns : goal.returns
returns c =
    let patterns = c.args.rows.now.patterns.items in
    let types = types_of c.args.rows.now.constructors.now in
    let start = state_of_rows types patterns c.deref.result.now _ (λ p. pattern_tree p.now) (λ q. map part_of q.items) _
    c.in_ok-state.ensures c.deref.ensures.value c.in_ok-questions.ensures in
    also c.in_turn.result c.in_turn.ensures (λ nodes is. is ∙ ap (λ s. with_rows s []) start)
