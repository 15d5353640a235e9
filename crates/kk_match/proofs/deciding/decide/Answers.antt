use Rattle.std.proofs.Common.{◌≡◌, ◌-◌, length, map, option_map, false, refl, sym, ap, subst, arith}
use Rattle.std.proofs.lemmas.List.{length-map}
use Rattle.kk_syntax.specs.Patterns.{pattern_tree}
use Rattle.kk_core.specs.Cases.{IsLean}
use Rattle.kk_core.specs.RowChoice.{Decides}
use Rattle.kk_core.specs.Decisions.{node_tree, AreOrderly}
use Rattle.kk_match.specs.Decided.{most_tests}
use Rattle.kk_match.specs.Graphs.{lines_from, HasMoreTests}
use Rattle.kk_match.specs.GraphGrowth.{IsGraph}
use Rattle.kk_match.specs.Parts.{types_of}
use Rattle.kk_match.specs.Turned.{turned}
use Rattle.kk_match.proofs.TestAnswers.{formed_asks}
use Rattle.kk_match.proofs.RowLengths.{turns_formed}
use Rattle.kk_match.proofs.NodeDecisions.{also, also_all, graph_known, graph_orderly, graph_decides, graph_formed, formed_as, graph_lean}
use Rattle.kk_match.proofs.TestSizes.{formed_short}
use Rattle.kk_match.proofs.deciding.decide.Goals as goal

pub finished-requires : goal.finished-requires
finished-requires c =
    let types = types_of c.args.rows.now.constructors.now in
    let patterns = c.args.rows.now.patterns.items in
    let ps = map (λ p. pattern_tree p.now) patterns in
    let known = graph_known types (most_tests ps) (lines_from types 0 ps) _ c.in-Some.nodes.items
    (ap (option_map (λ ns. ns.items)) c.in-Some.is) c.in_ok-nodes.ensures in
    let wide : length ps ≡ length patterns = length-map patterns (λ p. pattern_tree p.now) in
    let given = c.requires in
    let counted = c.len-count.ensures in
    let stored = c.args.rows.now.patterns.ok.0 in
    let rows_are : length ps ≡ c.len-count.result = omega (arith, wide, counted, stored) in
    subst (AreOrderly (turned (length c.in-Some.nodes.items - 1) (map node_tree c.in-Some.nodes.items))) rows_are
    (graph_orderly types (most_tests ps) ps (map node_tree c.in-Some.nodes.items)
    (length c.in-Some.nodes.items - 1) known.0 known.1 (omega (arith, wide, given)))

pub returns-in-Some-clause-formed : goal.returns-in-Some-clause-formed
returns-in-Some-clause-formed c =
    let types = types_of c.args.rows.now.constructors.now in
    let ps = map (λ p. pattern_tree p.now) c.args.rows.now.patterns.items in
    let nodes = map node_tree c.in-Some.nodes.items in
    let known = graph_known types (most_tests ps) (lines_from types 0 ps) _ c.in-Some.nodes.items
    (ap (option_map (λ ns. ns.items)) c.in-Some.is) c.in_ok-nodes.ensures in
    let last = length c.in-Some.nodes.items - 1 in
    also_all c.finished.result c.finished.ensures.nodes c.finished.ensures.tests c.finished.ensures.by_rows
    (λ found is tests by. formed_as types ps (turned last nodes) (map node_tree found.nodes.items) found.tests found.by_rows false
    (graph_formed types (most_tests ps) ps nodes last known.0 known.1 refl) is tests by)

pub returns-in-None-clause-formed : goal.returns-in-None-clause-formed
returns-in-None-clause-formed c =
    let types = types_of c.args.rows.now.constructors.now in
    let ps = map (λ p. pattern_tree p.now) c.args.rows.now.patterns.items in
    let more : HasMoreTests types (lines_from types 0 ps) (most_tests ps) =
    subst (λ o. IsGraph types (most_tests ps) (lines_from types 0 ps) (option_map (λ ns. ns.items) o)) c.in-None.is c.in_ok-nodes.ensures in
    also_all c.row_by_row.result c.row_by_row.ensures.nodes c.row_by_row.ensures.tests c.row_by_row.ensures.by_rows
    (λ found is tests by. turns_formed types ps (map node_tree found.nodes.items) found.tests found.by_rows more is tests by)

pub returns-in-Some-clause-decides : goal.returns-in-Some-clause-decides
returns-in-Some-clause-decides c =
    let types = types_of c.args.rows.now.constructors.now in
    let ps = map (λ p. pattern_tree p.now) c.args.rows.now.patterns.items in
    let last = length c.in-Some.nodes.items - 1 in
    let known = graph_known types (most_tests ps) (lines_from types 0 ps) _ c.in-Some.nodes.items
    (ap (option_map (λ ns. ns.items)) c.in-Some.is) c.in_ok-nodes.ensures in
    also_all c.finished.result c.finished.ensures.nodes (returns-in-Some-clause-formed c) c.finished.ensures.tests
    (λ found is formed tests. record {
      decides = λ constructors numbers. subst (Decides constructors ps) (sym is)
          (graph_decides types (most_tests ps) ps (map node_tree c.in-Some.nodes.items) last known.0 known.1 constructors numbers);
      asks = λ constructors numbers tell.
          formed_asks constructors types ps (map node_tree found.nodes.items) found.tests found.by_rows numbers tell formed;
      lean = subst (λ ns. IsLean ns ps) (sym is)
          (graph_lean types (most_tests ps) ps (map node_tree c.in-Some.nodes.items) last known.0 known.1);
    })

pub returns-in-Some-clause-short : goal.returns-in-Some-clause-short
returns-in-Some-clause-short c =
    also c.finished.result (returns-in-Some-clause-formed c)
    (λ found formed. formed_short (types_of c.args.rows.now.constructors.now) (map (λ p. pattern_tree p.now) c.args.rows.now.patterns.items)
    (map node_tree found.nodes.items) found.tests found.by_rows formed)

pub returns-in-None-clause-short : goal.returns-in-None-clause-short
returns-in-None-clause-short c =
    also c.row_by_row.result (returns-in-None-clause-formed c)
    (λ found formed. formed_short (types_of c.args.rows.now.constructors.now) (map (λ p. pattern_tree p.now) c.args.rows.now.patterns.items)
    (map node_tree found.nodes.items) found.tests found.by_rows formed)
