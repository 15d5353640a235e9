-- At the end no line is left.
use Rattle.rv_regs.proofs.Codes.{none_left}
use Rattle.rv_regs.proofs.checking.is_code.Goals as goal

pub returns : goal.returns
returns c =
    none_left c.args.code.now c.args.statements.now c.loop-item.item-index c.loop-item.at c.loop-item-test.false c.loop-item.invariant.in_range c.loop-item.invariant.same
