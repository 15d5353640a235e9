use Rattle.kk_counted.proofs.TokenedViews.{tokened_block_is}
use Rattle.kk_emitter.proofs.joins.block_of.Goals as goal

pub returns : goal.returns
returns c = tokened_block_is _
