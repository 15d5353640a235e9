use Rattle.std.proofs.Common.{arith}
use Rattle.std.proofs.lemmas.Int.{ints}
use Rattle.kk_lexer.proofs.FirstBytes.{number_too_large, number_fits}
use Rattle.kk_lexer.proofs.numbers.number.Goals as goal

pub returns-then-value-gt-GREATEST : goal.returns-then-value-gt-GREATEST
returns-then-value-gt-GREATEST c = λ signed.
    (c.magnitude-value.result.length, number_too_large _ _ signed _ _ c.requires.digit c.magnitude-value.ensures.longest c.magnitude-value.ensures.value (omega arith))

pub returns : goal.returns
returns c = λ signed.
    rw c.kept.ensures (number_fits _ _ signed _ _ _ c.requires.digit c.magnitude-value.ensures.longest c.magnitude-value.ensures.value (omega arith) (omega (arith, ints)))
