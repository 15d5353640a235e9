use Rattle.std.proofs.Common.{◌≡◌, true, get_or, arith}
use Rattle.std.proofs.lemmas.Bool.Decides.{nat_tests}
use Rattle.kk_lexer.specs.Lexemes.{is_blank}
use Rattle.kk_lexer.proofs.FirstBytes.{blank_begins}
use Rattle.kk_lexer.proofs.lexeme.first_lexeme.Goals as goal

pub returns-in-32 : goal.returns-in-32
returns-in-32 c =
    let is : is_blank (get_or c.args.text.now 0 0) ≡ true = grind (arith, nat_tests) in
    rw c.passed.ensures (blank_begins c.args.signed c.args.at c.args.text.now c.requires.text is)

pub returns-in-95 : goal.returns-in-95
returns-in-95 c = c.wildcard.ensures c.args.signed c.args.at

pub returns-in-34 : goal.returns-in-34
returns-in-34 c = c.string.ensures c.args.signed

pub returns-in-47 : goal.returns-in-47
returns-in-47 c = c.slash.ensures c.args.signed

pub returns-in-48-to-57 : goal.returns-in-48-to-57
returns-in-48-to-57 c = c.number.ensures c.args.signed

pub returns-in-65-to-90 : goal.returns-in-65-to-90
returns-in-65-to-90 c = c.constructor_name.ensures c.args.signed c.args.at

pub returns-in-97-to-122 : goal.returns-in-97-to-122
returns-in-97-to-122 c = c.name.ensures c.args.signed c.args.at

pub returns-in_default : goal.returns-in_default
returns-in_default c = c.symbol.ensures c.args.signed
