use Rattle.std.proofs.Common.{◌≡◌, ◌≤◌, length, take}
use Rattle.kk_syntax.specs.Outlines.{HaveSmallNumbers}
use Rattle.kk_slots.specs.Narrowing.{anys}
use Rattle.kk_slots.specs.Problems.{built, stacked}
use Rattle.kk_rows.proofs.example.build.Given as goal

abbrev pub invariant-loop-place : goal.invariant-loop-place
invariant-loop-place l = record {
  within : l.place ≤ length l.path;
  same : built (take l.place l.path) (stacked l.stack.items) ≡ built l.path (anys l.width);
  small : HaveSmallNumbers (stacked l.stack.items);
}

abbrev pub decreases-loop-place : goal.decreases-loop-place
decreases-loop-place l = l.place
