use Rattle.std.proofs.Common.{arith}
use Rattle.std.proofs.lemmas.Int.{ints}
use Rattle.kk_lexer.proofs.FirstBytes.{negative_too_large, negative_fits}
use Rattle.kk_lexer.proofs.numbers.negative_number.Goals as goal

pub returns-then-value-gt-GREATEST_NEGATIVE : goal.returns-then-value-gt-GREATEST_NEGATIVE
returns-then-value-gt-GREATEST_NEGATIVE c =
    (_, negative_too_large _ _ _ _ c.requires.text c.requires.dash c.requires.digit c.magnitude-value.ensures.longest c.magnitude-value.ensures.value (omega arith))

pub returns : goal.returns
returns c =
    rw c.kept.ensures (negative_fits _ _ _ _ _ c.requires.text c.requires.dash c.requires.digit c.magnitude-value.ensures.longest c.magnitude-value.ensures.value (omega arith) (omega (arith, ints)))
