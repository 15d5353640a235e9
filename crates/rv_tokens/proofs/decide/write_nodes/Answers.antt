use Rattle.std.proofs.Common.{List, map, take, sym, subst, ◌∙◌, arith}
use Rattle.kk_core.specs.Decisions.{NodeTree, node_tree}
use Rattle.rv_lower.specs.Written.{WroteLines}
use Rattle.rv_cells.specs.CountedLines.{NodesLines}
use Rattle.rv_tokens.specs.Written.{layout_known, ways_known}
use Rattle.rv_tokens.proofs.WrittenLines.{nodes_more}
use Rattle.rv_tokens.proofs.WrittenNodes.{nodes_taken, length_mapped}
use Rattle.rv_tokens.proofs.decide.write_nodes.Goals as goal

pub loop-node-preserved : goal.loop-node-preserved
loop-node-preserved c = record {
  number = omega (arith, c.in_ok-number.ensures, c.loop-node.invariant.number);
  wrote =
      subst (λ (each : List NodeTree). WroteLines (NodesLines (layout_known c.args.known.now) c.args.lowering.now.base
      c.args.ways.now.targets.nodes (ways_known c.args.ways.now) c.args.variable 0 each) c.args.lowering.now c.write_node.new.lowering)
      (nodes_taken c.args.ways.now.nodes.now c.loop-node.node-index c.node-item.result c.loop-node-test.true (sym c.node-item.is))
      (nodes_more (layout_known c.args.known.now) c.args.ways.now.targets.nodes (ways_known c.args.ways.now) c.args.variable
      (map node_tree (take c.loop-node.node-index c.args.ways.now.nodes.now)) (node_tree c.node-item.result)
      (c.loop-node.invariant.number
      ∙ sym (length_mapped node_tree c.args.ways.now.nodes.now c.loop-node.node-index c.loop-node-test.true))
      c.loop-node.invariant.wrote c.in_ok-write_node.ensures);
}
