use Rattle.std.proofs.Common.{◌≡◌, List, length, map, ap, sym, ◌∙◌, add-one, arith}
use Rattle.kk_syntax.specs.declared.program.Pat.{Pat}
use Rattle.kk_syntax.specs.Outlines.{no_outline, outline_list, pattern_outline}
use Rattle.kk_slots.specs.Narrowing.{back}
use Rattle.kk_slots.specs.Problems.{stacked}
use Rattle.kk_rows.proofs.Stacks.{taken_more, left_more, front_none, back_none, stacked_none}
use Rattle.kk_rows.proofs.example.take_parts.Goals.{in-Some+in_ok-push, in_default}
use Rattle.kk_rows.proofs.example.take_parts.Goals as goal

pub loop-place-preserved : goal.loop-place-preserved
loop-place-preserved c = elim c.match-pop.branch [
  | in-Some+in_ok-push w ↦ rw add-one (record {
    parts = taken_more c.loop-place._place (stacked c.args.stack.now.items) c.loop-place.parts.items c.match-pop.parts.items c.loop-place.stack.items c.pop.new.self.items w.in-Some.part
        c.loop-place.invariant.parts c.loop-place.invariant.left w.in-Some.ensures.items (ap (λ v. v.items) w.parts-is ∙ w.in_ok-push.ensures.items);
    left = left_more c.loop-place._place (stacked c.args.stack.now.items) c.loop-place.stack.items c.pop.new.self.items w.in-Some.part c.loop-place.invariant.left w.in-Some.ensures.items;
  })
  | in_default w ↦
      let ended = w.in_default.ensures.cases in
      let before : length c.loop-place.stack.items ≡ 0 = omega (arith, ended.0, c.loop-place.stack.ok.0) in
      let after : length c.pop.new.self.items ≡ 0 = omega (arith, ended.1, c.pop.new.self.ok.0) in
      let none : back c.loop-place._place (stacked c.args.stack.now.items) ≡ no_outline = sym c.loop-place.invariant.left ∙ stacked_none c.loop-place.stack.items before in
      rw add-one (record {
        parts = ap (λ (ps : List Pat). outline_list (map pattern_outline ps)) (ap (λ v. v.items) w.parts-is) ∙ (c.loop-place.invariant.parts ∙ sym (front_none c.loop-place._place (stacked c.args.stack.now.items) none));
        left = stacked_none c.pop.new.self.items after ∙ sym (back_none c.loop-place._place (stacked c.args.stack.now.items) none);
      })
]
