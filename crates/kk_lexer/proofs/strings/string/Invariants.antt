use Rattle.std.proofs.Common.{◌≤◌, ◌-◌, length, take}
use Rattle.kk_lexer.specs.Strings.{IsInside}
use Rattle.kk_lexer.proofs.strings.string.Given as goal

abbrev pub invariant-loop-byte : goal.invariant-loop-byte
invariant-loop-byte l = record { in_range : l.length ≤ length l.inside; inside : IsInside (take l.length l.inside) l.bytes.items }

abbrev pub decreases-loop-byte : goal.decreases-loop-byte
decreases-loop-byte l = length l.inside - l.length
