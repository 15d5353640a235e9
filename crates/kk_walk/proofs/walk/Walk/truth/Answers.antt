use Rattle.kk_walk.proofs.ShortestWalks.{truth_made}
use Rattle.kk_walk.proofs.walk.Walk.truth.Goals as goal

pub returns : goal.returns
returns c = truth_made c.args.self.now c.add.new.self c.add.ensures.variables c.new.result.items c.add.result c.new.ensures.items c.add.ensures.added
