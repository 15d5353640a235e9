use Rattle.std.proofs.Common.{◌≡◌}
use Rattle.kk_unify.specs.GraphOf.{graph_of, variables_of}
use Rattle.kk_walk.specs.Walks.{Opens}
use Rattle.kk_walk.proofs.build.opened.Given as goal

abbrev pub invariant-loop : goal.invariant-loop
invariant-loop l = record {
  opens : Opens (graph_of l.fn.graph) (graph_of l.graph) l.numbers.items l.counter;
  same : variables_of l.graph ≡ variables_of l.fn.graph;
}
