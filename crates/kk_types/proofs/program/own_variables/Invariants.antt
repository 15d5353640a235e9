use Rattle.std.proofs.Common.{◌≡◌}
use Rattle.kk_syntax.specs.Types.{variables_below}
use Rattle.kk_unify.specs.GraphOf.{graph_of, variables_of}
use Rattle.kk_walk.specs.Walks.{BuildsEach}
use Rattle.kk_types.proofs.program.own_variables.Given as goal

abbrev pub invariant-loop-variable : goal.invariant-loop-variable
invariant-loop-variable l = record {
  built : BuildsEach (graph_of l.fn.graph) (graph_of l.graph) l.numbers.items (λ r. variables_below l.variable);
  same : variables_of l.graph ≡ variables_of l.fn.graph;
}
