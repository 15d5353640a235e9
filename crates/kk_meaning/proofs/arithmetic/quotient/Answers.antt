use Rattle.std.proofs.Common.{rules}
use Rattle.kk_meaning.proofs.Results.{quotient_computed}
use Rattle.kk_meaning.proofs.arithmetic.quotient.Goals as goal

pub returns-else-y-eq0 : goal.returns-else-y-eq0
returns-else-y-eq0 c =
    quotient_computed c.args.x c.args.y _ c.ranges.x c.ranges.y (search rules) c.if-y-eq0.false c.wrapping_div.ensures
