use Rattle.kk_unify.proofs.NodeLinks.{link_formed, link_joined}
use Rattle.kk_unify.proofs.join.link.Goals as goal

pub returns-clause-formed : goal.returns-clause-formed
returns-clause-formed c = λ variables formed.
    link_formed c.args.nodes.now c.args.low c.args.high c.replace-upper.new.dest c.replace-upper.result c.merge.new.lower _ _ c.requires.order c.requires.high c.requires.heads c.replace-upper.ensures.value c.replace-upper.ensures.after variables formed c.merge.ensures.lower

pub returns-clause-joined : goal.returns-clause-joined
returns-clause-joined c =
    link_joined c.args.nodes.now c.args.low c.args.high c.replace-upper.new.dest c.replace-upper.result c.merge.new.lower _ _ c.requires.order c.requires.high c.requires.heads c.replace-upper.ensures.value c.replace-upper.ensures.after c.requires.linked.0 c.requires.linked.1 c.args.pairs.now.items c.merge.new.pairs.items c.merge.result c.merge.ensures.agree c.merge.ensures.merged
