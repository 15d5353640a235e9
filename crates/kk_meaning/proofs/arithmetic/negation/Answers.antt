use Rattle.std.proofs.Common.{rules}
use Rattle.kk_meaning.proofs.Results.{negation_computed}
use Rattle.kk_meaning.proofs.arithmetic.negation.Goals as goal

pub returns : goal.returns
returns c = negation_computed c.args.x _ c.ranges.x (search rules) c.wrapping_neg.ensures
