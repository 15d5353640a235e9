use Rattle.kk_unify.proofs.GraphSolvability.{each_graph_is_decided}
use Rattle.kk_unify.proofs.Unifiability.{each_join_is_decided}
use Rattle.kk_unify.proofs.law.graphs_are_decided.Goals as goal

pub returns-clause-joins : goal.returns-clause-joins
returns-clause-joins c = each_join_is_decided

pub returns-clause-graphs : goal.returns-clause-graphs
returns-clause-graphs c = each_graph_is_decided
