use Rattle.std.proofs.Common.{List, ℕ, sym, subst, arith}
use Rattle.std.proofs.lemmas.List.{drop_more, drop_all}
use Rattle.rv_isa.specs.ValueBounds.{AreValuesBelow}
use Rattle.rv_inline.proofs.counting.values_behind.Goals as goal

pub loop-value-preserved : goal.loop-value-preserved
loop-value-preserved c =
    let next = drop_more c.args.values.now c.loop-value.value-index _ c.loop-value-test.true in
    record {
      above = omega (arith, c.loop-value.invariant.above, c.behind-greatest.ensures.above);
      below = λ limit le below. c.loop-value.invariant.below limit (omega (arith, le, c.behind-greatest.ensures.above))
          (subst (AreValuesBelow limit) (sym next) (omega (arith, le, c.behind-greatest.ensures.below), below));
      least = λ limit le below.
          let old = c.loop-value.invariant.least limit le below in
          let parts = subst (λ (left : List ℕ). AreValuesBelow limit left) next old.1 in
          (c.behind-greatest.ensures.least limit old.0 parts.0, parts.1);
    }

pub returns : goal.returns
returns c = record {
  above = c.loop-value.invariant.above;
  below = λ limit le. c.loop-value.invariant.below limit le
      (subst (AreValuesBelow limit) (sym (drop_all c.loop-value.value-index c.args.values.now (omega (arith, c.loop-value-test.false)))) tt);
  least = λ limit le below. (c.loop-value.invariant.least limit le below).0;
}
