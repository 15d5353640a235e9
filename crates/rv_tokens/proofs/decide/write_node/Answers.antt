use Rattle.std.proofs.Common.{subst}
use Rattle.std.proofs.lemmas.Result.{on_ok_weaker}
use Rattle.kk_core.specs.Decisions.{NodeTree}
use Rattle.rv_lower.specs.Written.{WroteLines}
use Rattle.rv_cells.specs.CountedLines.{NodeLines}
use Rattle.rv_tokens.specs.Written.{layout_known, ways_known}
use Rattle.rv_tokens.proofs.WrittenNodes.{node_is}
use Rattle.rv_tokens.proofs.WrittenLines.{labelled_test}
use Rattle.rv_tokens.proofs.decide.write_node.Goals as goal

pub returns-in_ok-behind-in-Test : goal.returns-in_ok-behind-in-Test
returns-in_ok-behind-in-Test c =
    on_ok_weaker c.write_tests.result
    (λ wrote. subst (λ (node : NodeTree). WroteLines (NodeLines (layout_known c.args.known.now) c.args.lowering.now.base
    c.args.ways.now.targets.nodes (ways_known c.args.ways.now) c.args.variable c.args.number node) c.args.lowering.now
    c.write_tests.new.lowering)
    (node_is c.args.node.now c.in-Test.at c.in-Test.edges c.in-Test.otherwise c.deref.result.now c.deref-in-Test.result.now
    c.in-Test.is c.deref.ensures.value c.deref-in-Test.ensures.value)
    (labelled_test (layout_known c.args.known.now) c.args.ways.now.targets.nodes (ways_known c.args.ways.now) c.args.variable c.args.number
    c.deref.result.now c.deref-in-Test.result.now c.in-Test.otherwise c.in_ok-sum-in-Test.ensures c.in_ok-behind-in-Test.ensures
    c.in_ok-write_label-in-Test.ensures wrote))
    c.write_tests.ensures
