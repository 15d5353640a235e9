use Rattle.std.proofs.Common.{◌-◌, arith, sym, ap, ◌∙◌, get_or}
use Rattle.kk_syntax.specs.Shapes.{is_among}
use Rattle.kk_insert.proofs.ListEnds.{before_there, before_new, extra_there, extra_new}
use Rattle.kk_insert.proofs.variables.extra.Goals as goal

pub back-preserved-in-Continue-branch-2 : goal.back-preserved-in-Continue-branch-2
back-preserved-in-Continue-branch-2 c = (
  before_there c.args.variables.now c.args.after.now c.back.later.items c.back.left 0 (omega (arith, c.back-test.true)) c.back.invariant.1.1 c.back.invariant.0 (sym (c.is_in.ensures ∙ ap (λ ys. is_among ys (get_or c.args.variables.now (c.back.left - 1) 0)) c.deref.ensures.value) ∙ c.if-is_in.true),
  (
    extra_there c.args.variables.now c.args.after.now c.back.later.items c.back.found.items _ c.back.left 0 (omega (arith, c.back-test.true)) c.back.invariant.1.1 c.back.invariant.0 c.back.invariant.1.0 (sym (c.is_in.ensures ∙ ap (λ ys. is_among ys (get_or c.args.variables.now (c.back.left - 1) 0)) c.deref.ensures.value) ∙ c.if-is_in.true) c.in_ok-insert.ensures.items,
    omega (arith, c.back.invariant.1.1),
  ),
)

pub back-preserved : goal.back-preserved
back-preserved c = (
  before_new c.args.variables.now c.args.after.now c.back.later.items _ c.back.left 0 (omega (arith, c.back-test.true)) c.back.invariant.1.1 c.back.invariant.0 (sym (c.is_in.ensures ∙ ap (λ ys. is_among ys (get_or c.args.variables.now (c.back.left - 1) 0)) c.deref.ensures.value) ∙ c.if-is_in.false) c.in_ok-insert-2.ensures.items,
  (
    extra_new c.args.variables.now c.args.after.now c.back.later.items c.back.found.items c.back.left 0 (omega (arith, c.back-test.true)) c.back.invariant.1.1 c.back.invariant.0 c.back.invariant.1.0 (sym (c.is_in.ensures ∙ ap (λ ys. is_among ys (get_or c.args.variables.now (c.back.left - 1) 0)) c.deref.ensures.value) ∙ c.if-is_in.false),
    omega (arith, c.back.invariant.1.1),
  ),
)
