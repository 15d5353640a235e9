use Rattle.std.proofs.Common.{◌≡◌, ◌+◌, ◌∷◌, ◌∙◌, List, ℕ, drop, map, sym, ap, subst, arith}
use Rattle.std.proofs.lemmas.List.{drop_more, drop_all}
use Rattle.rv_isa.specs.declared.asm.Statement.{Statement}
use Rattle.rv_isa.specs.AsmCode.{line_of}
use Rattle.rv_isa.specs.ValueBounds.{AreValuesBelow, AreLinesBelow}
use Rattle.rv_inline.proofs.counting.lines_behind.Goals as goal

pub loop-statement-preserved : goal.loop-statement-preserved
loop-statement-preserved c =
    let item : Statement = c.statement-item.result in
    let rest : List Statement = drop (c.loop-statement.statement-index + 1) c.args.code.now in
    let next : drop c.loop-statement.statement-index c.args.code.now ≡ item ∷ rest
    = drop_more c.args.code.now c.loop-statement.statement-index item c.loop-statement-test.true
    ∙ ap (λ (one : Statement). one ∷ rest) (sym c.statement-item.is) in
    record {
      above = omega (arith, c.loop-statement.invariant.above, c.values_behind-greatest.ensures.above, c.written_behind-greatest.ensures.above);
      below = λ limit le below.
          let args = subst (λ (values : List ℕ). AreValuesBelow limit values) c.deref.ensures.value
          (c.values_behind-greatest.ensures.below limit (omega (arith, le, c.written_behind-greatest.ensures.above))) in
          c.loop-statement.invariant.below limit
          (omega (arith, le, c.values_behind-greatest.ensures.above, c.written_behind-greatest.ensures.above))
          (subst (λ (left : List Statement). AreLinesBelow limit (map line_of left)) (sym next)
          ((args, c.written_behind-greatest.ensures.below limit le), below));
      least = λ limit le below.
          let old = c.loop-statement.invariant.least limit le below in
          let parts : AreLinesBelow limit (map line_of (item ∷ rest))
          = subst (λ (left : List Statement). AreLinesBelow limit (map line_of left)) next old.1 in
          let args = subst (λ (values : List ℕ). AreValuesBelow limit values) (sym c.deref.ensures.value) parts.0.0 in (
            c.written_behind-greatest.ensures.least limit (c.values_behind-greatest.ensures.least limit old.0 args) parts.0.1,
            parts.1,
          );
    }

pub returns : goal.returns
returns c = record {
  above = c.loop-statement.invariant.above;
  below = λ limit le. c.loop-statement.invariant.below limit le
      (subst (λ (left : List Statement). AreLinesBelow limit (map line_of left))
      (sym (drop_all c.loop-statement.statement-index c.args.code.now (omega (arith, c.loop-statement-test.false)))) tt);
  least = λ limit le below. (c.loop-statement.invariant.least limit le below).0;
}
