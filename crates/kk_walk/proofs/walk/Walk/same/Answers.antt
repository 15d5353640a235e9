use Rattle.kk_walk.proofs.WalkComposition.{joined_walked}
use Rattle.kk_walk.proofs.walk.Walk.same.Goals as goal

pub returns : goal.returns
returns c = joined_walked c.args.self.now c.join.new.self c.args.node c.args.other c.join.result c.join.ensures.variables c.join.ensures.joined
