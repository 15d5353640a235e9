use Rattle.kk_lexer.proofs.FirstBytes.{closed_begins, open_begins}
use Rattle.kk_lexer.proofs.comments.comment.Goals as goal

pub returns-in-Some : goal.returns-in-Some
returns-in-Some c = λ signed. rw c.passed.ensures (closed_begins signed c.args.at _ c.requires.slash c.requires.text c.requires.star _ c.in-Some.ensures)

pub returns-in-None : goal.returns-in-None
returns-in-None c = λ signed. (2, open_begins signed c.args.at _ c.requires.slash c.requires.text c.requires.star c.in-None.ensures)
