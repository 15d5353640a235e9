use Rattle.kk_walk.proofs.ShortestWalks.{is_walked}
use Rattle.kk_walk.proofs.walk.Walk.is.Goals as goal

pub returns : goal.returns
returns c =
    is_walked c.args.self.now c.add.new.self c.add.ensures.variables c.join.new.self c.args.node c.in_ok-made.made c.args.ty c.join.result c.requires.inside c.requires.addable c.in_ok-made.ensures.added
    c.join.ensures.variables c.join.ensures.joined
