use Rattle.std.proofs.Common.{List, ℕ, subst}
use Rattle.std.proofs.lemmas.List.{drop_more}
use Rattle.rv_isa.specs.ValueBounds.{AreValuesBelow}
use Rattle.rv_regs.proofs.modest.values_behind.Goals as goal

pub loop-value-preserved : goal.loop-value-preserved
loop-value-preserved c = λ limit le below.
    let old = c.loop-value.invariant limit le below in
    let parts = subst (λ (left : List ℕ). AreValuesBelow limit left)
    (drop_more c.args.values.now c.loop-value.value-index _ c.loop-value-test.true) old.1 in
    (c.behind-greatest.ensures limit old.0 parts.0, parts.1)

pub returns : goal.returns
returns c = λ limit le below. (c.loop-value.invariant limit le below).0
