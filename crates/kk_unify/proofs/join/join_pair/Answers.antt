use Rattle.kk_unify.specs.NodesOf.{node_trees}
use Rattle.kk_unify.proofs.NodePairs.{steps_found, pair_joined}
use Rattle.kk_unify.proofs.join.join_pair.Goals as goal

pub returns-then-first-second-clause-joined : goal.returns-then-first-second-clause-joined
returns-then-first-second-clause-joined c =
    steps_found (node_trees c.args.nodes.now) (node_trees c.find-first.new.nodes) (node_trees c.find-second.new.nodes) c.args.first c.args.second c.find-first.result c.find-second.result c.find-first.ensures c.find-second.ensures c.args.pairs.now.items c.if-first-second.true

pub returns-clause-joined : goal.returns-clause-joined
returns-clause-joined c =
    pair_joined (node_trees c.args.nodes.now) (node_trees c.find-first.new.nodes) (node_trees c.find-second.new.nodes) c.args.first c.args.second c.find-first.result c.find-second.result c.find-first.ensures c.find-second.ensures c.args.pairs.now.items c.link.new.pairs.items (node_trees c.link.new.nodes) c.min.result c.max.result c.link.result c.min.ensures c.max.ensures c.link.ensures.joined

pub returns-clause-formed : goal.returns-clause-formed
returns-clause-formed c = λ variables formed.
    c.link.ensures.formed variables (c.find-second.ensures.leads.alike.formed variables (c.find-first.ensures.leads.alike.formed variables formed))
