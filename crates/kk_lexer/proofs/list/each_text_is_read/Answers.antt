use Rattle.kk_lexer.proofs.ReadingExistence.{each_text_is_read}
use Rattle.kk_lexer.proofs.list.each_text_is_read.Goals as goal

pub returns : goal.returns
returns c = each_text_is_read
