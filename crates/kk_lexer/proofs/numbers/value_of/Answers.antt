use Rattle.kk_lexer.proofs.NumberLemmas.{value_more}
use Rattle.kk_lexer.proofs.numbers.value_of.Goals as goal

pub loop-byte-preserved : goal.loop-byte-preserved
loop-byte-preserved c = value_more _ _ _ _ _ _ c.loop-byte-test.true c.requires.low c.loop-byte.invariant c.with_byte-value.ensures
