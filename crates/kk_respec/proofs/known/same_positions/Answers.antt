use Rattle.kk_respec.proofs.KnownTokens.{positions_found}
use Rattle.kk_respec.proofs.known.same_positions.Goals as goal

pub returns : goal.returns
returns c =
    positions_found c.loop-i.i c.min-i-end.result c.args.fields.now c.args.arguments.now c.loop-i.kept.items _
    c.min-i-end.ensures c.loop-i-test.false c.loop-i.invariant.0
