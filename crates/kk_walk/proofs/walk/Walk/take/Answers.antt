use Rattle.kk_walk.proofs.ShortestWalks.{was_opened}
use Rattle.kk_walk.proofs.walk.Walk.take.Goals as goal

pub returns : goal.returns
returns c = was_opened c.args.self.now c.open.new.self c.open.ensures.variables c.in_ok-node.node c.push.new.self c.in_ok-push.ensures.items c.in_ok-node.ensures.added
