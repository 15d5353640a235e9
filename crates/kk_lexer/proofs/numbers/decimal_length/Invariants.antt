use Rattle.std.proofs.Common.{◌≡◌, ◌≤◌, ◌-◌, length, true}
use Rattle.kk_lexer.specs.Numbers.{ends_decimal, is_decimal}
use Rattle.kk_lexer.proofs.FrontLemmas.{Scans}
use Rattle.kk_lexer.proofs.numbers.decimal_length.Given as goal

abbrev pub invariant-loop-length : goal.invariant-loop-length
invariant-loop-length l = record {
  in_range : l.length ≤ length l.text;
  scans : Scans (λ w. is_decimal w ≡ true) l.text l.length (λ w. ends_decimal w ≡ true);
}

abbrev pub decreases-loop-length : goal.decreases-loop-length
decreases-loop-length l = length l.text - l.length
