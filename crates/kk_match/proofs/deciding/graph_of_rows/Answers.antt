use Rattle.std.proofs.Common.{map, option_map, ap, ◌∙◌, subst}
use Rattle.std.specs.Prelude.{IfOk}
use Rattle.kk_syntax.specs.Patterns.{pattern_tree}
use Rattle.kk_match.specs.Decided.{most_tests}
use Rattle.kk_match.specs.Graphs.{lines_from}
use Rattle.kk_match.specs.GraphGrowth.{IsGraph}
use Rattle.kk_match.specs.Parts.{types_of}
use Rattle.kk_match.specs.Views.{part_of, state_tree}
use Rattle.kk_match.proofs.NodeDecisions.{state_of_rows}
use Rattle.kk_match.proofs.deciding.graph_of_rows.Goals as goal

pub returns : goal.returns
returns c =
    let patterns = c.args.rows.now.patterns.items in
    let types = types_of c.args.rows.now.constructors.now in
    let ps = map (λ p. pattern_tree p.now) patterns in
    let start = state_of_rows types patterns c.deref-2.result.now _ (λ p. pattern_tree p.now) (λ q. map part_of q.items)
    (state_tree c.in_ok-state.state) c.in_ok-state.ensures c.deref-2.ensures.value c.in_ok-questions.ensures in
    let most = c.in_ok-most.ensures ∙ ap (λ qs. most_tests (map (λ p. pattern_tree p.now) qs)) c.deref.ensures.value in
    subst (λ m. IfOk c.graph.result (λ found. IsGraph types m (lines_from types 0 ps) (option_map (λ ns. ns.items) found))) most
    (subst (λ s. IfOk c.graph.result (λ found. IsGraph types c.in_ok-most.most s (option_map (λ ns. ns.items) found))) start
    c.graph.ensures)
