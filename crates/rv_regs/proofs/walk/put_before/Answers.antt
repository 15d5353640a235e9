use Rattle.std.proofs.Common.{ap, ◌∙◌}
use Rattle.rv_regs.specs.Backwards.{backwards}
use Rattle.rv_regs.proofs.WalkSteps.{backwards_put}
use Rattle.rv_regs.proofs.walk.put_before.Goals as goal

pub returns : goal.returns
returns c = ap backwards c.in_ok-push.ensures.items ∙ backwards_put c.args.items.now.items c.args.item
