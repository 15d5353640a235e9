use Rattle.std.proofs.Common.{length}
use Rattle.rv_tokens.proofs.known.+mask.Given as goal

abbrev pub decreases-mask : goal.decreases-mask
decreases-mask l = length l.fields.now
