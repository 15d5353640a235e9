use Rattle.kk_unify.proofs.NodeAddition.{formed_pushed}
use Rattle.kk_unify.proofs.graph.Graph.put.Goals as goal

pub invariant_of-self-clause-formed : goal.invariant_of-self-clause-formed
invariant_of-self-clause-formed c =
    formed_pushed c.args.self.now.variables c.args.self.now.nodes.items c.push.new.self.items c.args.node _ c.push.ensures.items c.args.self.now.formed c.requires
