use Rattle.std.proofs.Common.{◌≡◌}
use Rattle.kk_slots.specs.Narrowing.{anys}
use Rattle.kk_slots.specs.Problems.{stacked}
use Rattle.kk_rows.proofs.example.wildcards.Given as goal

abbrev pub invariant-loop-place : goal.invariant-loop-place
invariant-loop-place l = stacked l.stack.items ≡ anys l._place
