use Rattle.std.proofs.Common.{◌≡◌, min, take, ◌+◌}
use Rattle.kk_lexer.specs.Numbers.{value_behind, greatest_negative}
use Rattle.kk_lexer.proofs.numbers.value_of.Given as goal

abbrev pub invariant-loop-byte : goal.invariant-loop-byte
invariant-loop-byte l = l.value ≡ min (value_behind l.base 0 (take l.byte-index l.word)) (greatest_negative + 1)
