use Rattle.std.proofs.Common.{length}
use Rattle.rv_tokens.proofs.token_cells.+write_holds.Given as goal

abbrev pub decreases-write_holds : goal.decreases-write_holds
decreases-write_holds l = length l.tokens.now
