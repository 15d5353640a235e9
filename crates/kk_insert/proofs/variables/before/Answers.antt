use Rattle.std.proofs.Common.{◌-◌, arith, sym, ap, ◌∙◌, get_or}
use Rattle.kk_syntax.specs.Shapes.{is_among}
use Rattle.kk_insert.proofs.ListEnds.{before_there}
use Rattle.kk_insert.proofs.variables.before.Goals as goal

pub back-preserved : goal.back-preserved
back-preserved c = (
  before_there c.args.variables.now c.args.after.now c.back.found.items c.back.left 0 (omega (arith, c.back-test.true)) c.back.invariant.1 c.back.invariant.0 (sym (c.is_in.ensures ∙ ap (λ ys. is_among ys (get_or c.args.variables.now (c.back.left - 1) 0)) c.deref.ensures.value) ∙ c.if-not-is_in.false),
  omega (arith, c.back.invariant.1),
)
