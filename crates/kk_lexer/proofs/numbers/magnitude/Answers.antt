use Rattle.kk_lexer.specs.Numbers.{decimal}
use Rattle.kk_lexer.proofs.NumberLemmas.{decimal_longest}
use Rattle.kk_lexer.proofs.numbers.magnitude.Goals as goal

pub returns-clause-longest : goal.returns-clause-longest
returns-clause-longest c = decimal_longest _ _ c.in_default.ensures.longest c.decimal_length-length.ensures

pub returns-clause-value : goal.returns-clause-value
returns-clause-value c = (_, decimal _ c.decimal_length-length.ensures.member, c.value_of.ensures)
