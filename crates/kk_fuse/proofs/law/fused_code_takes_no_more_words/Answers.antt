use Rattle.kk_fuse.proofs.FusedWords.{fused_words}
use Rattle.kk_fuse.proofs.law.fused_code_takes_no_more_words.Goals as goal

pub returns : goal.returns
returns c = fused_words
