use Rattle.std.proofs.Common.{◌≡◌, map}
use Rattle.kk_slots.specs.Narrowing.{front, back}
use Rattle.kk_syntax.specs.Outlines.{outline_list, pattern_outline}
use Rattle.kk_slots.specs.Problems.{stacked}
use Rattle.kk_rows.proofs.example.take_parts.Given as goal

abbrev pub invariant-loop-place : goal.invariant-loop-place
invariant-loop-place l = record {
  parts : outline_list (map pattern_outline l.parts.items) ≡ front l._place (stacked l.fn.stack.items);
  left : stacked l.stack.items ≡ back l._place (stacked l.fn.stack.items);
}
