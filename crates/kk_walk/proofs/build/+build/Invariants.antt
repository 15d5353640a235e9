use Rattle.std.proofs.Common.{◌≡◌, map, take}
use Rattle.kk_syntax.specs.Types.{put, type_at, type_tree}
use Rattle.kk_unify.specs.GraphOf.{graph_of, variables_of}
use Rattle.kk_walk.specs.Walks.{BuildsEach}
use Rattle.kk_walk.proofs.build.+build.Given as goal

abbrev pub invariant-build_each-loop-ty : goal.invariant-build_each-loop-ty
invariant-build_each-loop-ty l = record {
  built : BuildsEach (graph_of l.fn.graph) (graph_of l.graph) l.nodes.items (λ r. map (put (type_at (map r l.at))) (map type_tree (take l.ty-index l.types)));
  same : variables_of l.graph ≡ variables_of l.fn.graph;
}
