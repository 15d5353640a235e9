use Rattle.std.proofs.Common.{◌-◌, List, length, sym, ap, ◌∙◌, subst, arith}
use Rattle.std.proofs.lemmas.List.{take_all}
use Rattle.kk_syntax.specs.Outlines.{HaveSmallNumbers}
use Rattle.kk_slots.specs.declared.problem.Head.{Head}
use Rattle.kk_slots.specs.declared.problem.Head.TheVariants.{Free}
use Rattle.kk_slots.specs.Narrowing.{anys}
use Rattle.kk_slots.specs.Problems.{built, stacked}
use Rattle.kk_rows.proofs.NumberBounds.{small_anys}
use Rattle.kk_rows.proofs.Stacks.{built_less, built_done, top_small}
use Rattle.kk_rows.proofs.example.build.Goals as goal

pub loop-place-init : goal.loop-place-init
loop-place-init c = record {
  within = omega arith;
  same =
      ap (λ (hs : List Head). built hs (stacked c.in_ok-stack.stack.items)) (take_all (length c.args.path.now) c.args.path.now (omega arith))
      ∙ ap (built c.args.path.now) c.in_ok-stack.ensures;
  small = subst HaveSmallNumbers (sym c.in_ok-stack.ensures) (small_anys c.args.width);
}

pub loop-place-preserved : goal.loop-place-preserved
loop-place-preserved c = record {
  within = omega arith;
  same =
      built_less c.args.path.now c.loop-place.place (c.loop-place.place - 1) Free (stacked c.loop-place.stack.items) (stacked c.put.new.stack.items) (omega arith) c.loop-place.invariant.within c.in_ok-put.ensures.stack
      ∙ c.loop-place.invariant.same;
  small = c.in_ok-put.ensures.small c.loop-place.invariant.small;
}

pub returns-in-Some-clause-pattern : goal.returns-in-Some-clause-pattern
returns-in-Some-clause-pattern c = built_done c.args.path.now c.loop-place.place c.loop-place.stack.items c.pop.new.self.items c.in-Some.example (built c.args.path.now (anys c.args.width)) c.loop-place-test.false c.loop-place.invariant.same c.in-Some.ensures.items

pub returns-in-Some-clause-small : goal.returns-in-Some-clause-small
returns-in-Some-clause-small c = top_small c.loop-place.stack.items c.pop.new.self.items c.in-Some.example c.in-Some.ensures.items c.loop-place.invariant.small
