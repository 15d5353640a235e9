use Rattle.kk_lexer.proofs.CommentLemmas.{lone}
use Rattle.kk_lexer.proofs.comments.first_mark.Goals as goal

pub returns-in-len1-up : goal.returns-in-len1-up
returns-in-len1-up c = lone c.args.text.now c.in-len1-up.len_at_least c.in-len1-up.len_below
