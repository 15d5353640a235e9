use Rattle.kk_lexer.proofs.FirstBytes.{symbol_begins, bad_byte_begins}
use Rattle.kk_lexer.proofs.symbols.symbol.Goals as goal

pub returns-in-Some : goal.returns-in-Some
returns-in-Some c = λ signed. rw c.kept.ensures (symbol_begins c.args.text.now signed c.args.at c.in-Some.length c.in-Some.symbol c.requires.other c.in-Some.ensures.0 c.in-Some.ensures.1)

pub returns-in-None : goal.returns-in-None
returns-in-None c = λ signed. (1, bad_byte_begins c.args.text.now signed c.args.at c.requires.text c.requires.other c.in-None.ensures)
