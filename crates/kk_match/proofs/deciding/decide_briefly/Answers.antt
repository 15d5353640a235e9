use Rattle.std.proofs.Common.{◌≡◌, ◌<◌, map, subst, arith}
use Rattle.kk_syntax.specs.Patterns.{pattern_tree}
use Rattle.kk_core.specs.CaseLengths.{tests_length}
use Rattle.kk_core.specs.Decisions.{node_tree}
use Rattle.kk_match.specs.Decided.{brief_length}
use Rattle.kk_match.specs.Parts.{types_of}
use Rattle.kk_match.proofs.RowLengths.{turns_brief, turns_briefly}
use Rattle.kk_match.proofs.NodeDecisions.{also, also_all}
use Rattle.kk_match.proofs.deciding.decide_briefly.Goals as goal

pub returns-else-length-most-clause-brief : goal.returns-else-length-most-clause-brief
returns-else-length-most-clause-brief c =
    let rows = c.args.rows.now in
    let types = types_of rows.constructors.now in
    let ps = map (λ p. pattern_tree p.now) rows.patterns.items in
    also c.row_by_row.result c.row_by_row.ensures.nodes
    (λ found is. turns_brief types ps (map node_tree found.nodes.items) is)

pub returns-else-length-most-clause-formed : goal.returns-else-length-most-clause-formed
returns-else-length-most-clause-formed c =
    let rows = c.args.rows.now in
    let types = types_of rows.constructors.now in
    let ps = map (λ p. pattern_tree p.now) rows.patterns.items in
    let graph = c.in_ok-found.found in
    let long = map node_tree graph.nodes.items in
    let length_is : c.in_ok-length.length ≡ tests_length long
    = subst (λ ns. c.in_ok-length.length ≡ tests_length (map node_tree ns)) c.nodes.ensures c.in_ok-length.ensures in
    let most_is : c.in_ok-most.most ≡ brief_length ps
    = subst (λ qs. c.in_ok-most.most ≡ brief_length (map (λ p. pattern_tree p.now) qs)) c.deref.ensures.value c.in_ok-most.ensures in
    let over : brief_length ps < tests_length long = (let more = c.if-length-most.false in omega (arith, more, length_is, most_is)) in
    also_all c.row_by_row.result c.row_by_row.ensures.nodes c.row_by_row.ensures.tests c.row_by_row.ensures.by_rows
    (λ found is tests by. turns_briefly types ps long graph.tests graph.by_rows (map node_tree found.nodes.items) found.tests found.by_rows
    c.in_ok-found.ensures.formed over is tests by)
