use Rattle.std.proofs.Common.{◌≡◌, ◌<◌, ◌-◌, suc, [], length, map, sym, ap, ◌∙◌, subst, arith}
use Rattle.std.proofs.lemmas.List.{length-map}
use Rattle.kk_syntax.specs.Patterns.{pattern_tree}
use Rattle.kk_core.specs.Decisions.{node_tree, AreOrderly}
use Rattle.kk_match.specs.Graphs.{lines_from}
use Rattle.kk_match.specs.InTurn.{with_rows}
use Rattle.kk_match.specs.Parts.{types_of}
use Rattle.kk_match.specs.Turned.{turned}
use Rattle.kk_match.proofs.TestAnswers.{turns_ask}
use Rattle.kk_match.proofs.RowLengths.{turns_decide, turns_lean}
use Rattle.kk_match.proofs.NodeDecisions.{also, turn_some, turn_orderly}
use Rattle.kk_match.proofs.deciding.row_by_row.Goals as goal

pub finished-requires : goal.finished-requires
finished-requires c =
    let rows = c.args.rows.now in
    let types = types_of rows.constructors.now in
    let ps = map (λ p. pattern_tree p.now) rows.patterns.items in
    let nodes = map node_tree c.in_ok-nodes.nodes.items in
    let is : nodes ≡ with_rows (lines_from types 0 ps) [] = c.in_ok-nodes.ensures in
    let wide : length ps ≡ length rows.patterns.items = length-map rows.patterns.items (λ p. pattern_tree p.now) in
    let given = c.requires in
    let there : 0 < length ps = omega (arith, wide, given) in
    let long : length nodes ≡ length c.in_ok-nodes.nodes.items = length-map c.in_ok-nodes.nodes.items node_tree in
    let some = turn_some types nodes ps there is in
    let count : suc (length c.in_ok-nodes.nodes.items - 1) ≡ length nodes = omega (arith, long, some) in
    let counted = c.len-count.ensures in
    let stored = rows.patterns.ok.0 in
    let rows_are : length ps ≡ c.len-count.result = omega (arith, wide, counted, stored) in
    subst (AreOrderly (turned (length c.in_ok-nodes.nodes.items - 1) nodes)) rows_are
    (turn_orderly types nodes (length c.in_ok-nodes.nodes.items - 1) count ps there is)

pub returns-clause-nodes : goal.returns-clause-nodes
returns-clause-nodes c =
    let types = types_of c.args.rows.now.constructors.now in
    let patterns = c.args.rows.now.patterns.items in
    let nodes = map node_tree c.in_ok-nodes.nodes.items in
    let long : length nodes ≡ length c.in_ok-nodes.nodes.items = length-map c.in_ok-nodes.nodes.items node_tree in
    also c.finished.result c.finished.ensures.nodes
    (λ found same. same ∙ (ap (λ n. turned (n - 1) nodes) (sym long)
    ∙ ap (λ ns. turned (length ns - 1) ns) c.in_ok-nodes.ensures))

pub returns-clause-decides : goal.returns-clause-decides
returns-clause-decides c =
    let types = types_of c.args.rows.now.constructors.now in
    let ps = map (λ p. pattern_tree p.now) c.args.rows.now.patterns.items in
    let wide : length ps ≡ length c.args.rows.now.patterns.items = length-map c.args.rows.now.patterns.items (λ p. pattern_tree p.now) in
    let given = c.requires in
    let some : 0 < length ps = omega (arith, wide, given) in
    also c.finished.result (returns-clause-nodes c)
    (λ found is. record {
      decides = λ constructors numbers. turns_decide constructors types ps (map node_tree found.nodes.items) numbers some is;
      asks = λ constructors numbers tell. turns_ask constructors types ps (map node_tree found.nodes.items) numbers tell is;
      lean = turns_lean types ps (map node_tree found.nodes.items) some is;
    })
