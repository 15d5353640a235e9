use Rattle.std.proofs.Common.{◌≡◌, ◌+◌, map, drop}
use Rattle.kk_core.specs.CaseLengths.{tests_length}
use Rattle.kk_core.specs.Decisions.{node_tree}
use Rattle.kk_match.proofs.length.tests_length.Given as goal

abbrev pub invariant-loop-node : goal.invariant-loop-node
invariant-loop-node l = l.length + tests_length (map node_tree (drop l.node-index l.nodes)) ≡ tests_length (map node_tree l.nodes)
