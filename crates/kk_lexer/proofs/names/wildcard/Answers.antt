use Rattle.kk_lexer.proofs.FirstBytes.{wildcard_begins}
use Rattle.kk_lexer.proofs.names.wildcard.Goals as goal

pub returns : goal.returns
returns c = λ signed at.
    rw (c.kept.ensures, c.word_bytes-length.ensures.value) (wildcard_begins c.args.text.now signed at c.requires.text c.requires.underscore)
