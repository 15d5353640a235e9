use Rattle.kk_reuse.proofs.PairedWords.{body_takes}
use Rattle.kk_reuse.proofs.law.paired_code_takes_few_words.Goals as goal

pub returns : goal.returns
returns c function ends = body_takes function.body ends
