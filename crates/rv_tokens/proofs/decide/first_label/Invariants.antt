use Rattle.std.proofs.Common.{◌≡◌, drop, map}
use Rattle.kk_core.specs.Decisions.{node_tree}
use Rattle.rv_cells.specs.CountedLines.{first_label}
use Rattle.rv_tokens.proofs.decide.first_label.Given as goal

-- the label is that of the nodes that are left
abbrev pub invariant-loop-node : goal.invariant-loop-node
invariant-loop-node l =
    first_label l.targets.nodes l.targets.arms l.number (map node_tree (drop l.node-index l.nodes))
    ≡ first_label l.targets.nodes l.targets.arms l.fn.number (map node_tree l.nodes)
