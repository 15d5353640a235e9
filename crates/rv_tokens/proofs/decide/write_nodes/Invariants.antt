use Rattle.std.proofs.Common.{◌≡◌, map, take}
use Rattle.kk_core.specs.Decisions.{node_tree}
use Rattle.rv_lower.specs.Written.{WroteLines}
use Rattle.rv_cells.specs.CountedLines.{NodesLines}
use Rattle.rv_tokens.specs.Written.{layout_known, ways_known}
use Rattle.rv_tokens.proofs.decide.write_nodes.Given as goal

abbrev pub invariant-loop-node : goal.invariant-loop-node
invariant-loop-node l = record {
  number : l.number ≡ l.node-index;
  wrote : WroteLines
      (NodesLines (layout_known l.known) l.fn.lowering.base l.ways.targets.nodes (ways_known l.ways) l.variable 0
      (map node_tree (take l.node-index l.ways.nodes.now)))
      l.fn.lowering l.lowering;
}
