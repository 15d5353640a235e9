use Rattle.std.proofs.Common.{◌≡◌, ◌≤◌, ◌-◌, length, true}
use Rattle.kk_lexer.specs.Names.{ends_name}
use Rattle.kk_lexer.proofs.FrontLemmas.{Scans}
use Rattle.kk_lexer.proofs.names.name_end.Given as goal

abbrev pub invariant-loop-last : goal.invariant-loop-last
invariant-loop-last l = record {
  in_range : l.length ≤ length l.text;
  scans : Scans (λ w. ends_name l.before w ≡ true) l.text l.length (λ w. ends_name l.last w ≡ true);
}

abbrev pub decreases-loop-last : goal.decreases-loop-last
decreases-loop-last l = length l.text - l.length
