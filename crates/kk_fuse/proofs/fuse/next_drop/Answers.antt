use Rattle.std.proofs.Common.{◌-◌, arith, sym, refl, ◌∙◌}
use Rattle.kk_fuse.proofs.DropSearch.{passed_first, found_drop, found_none, passed_next, passed_all}
use Rattle.kk_fuse.proofs.fuse.next_drop.Goals as goal

pub back-init : goal.back-init
back-init c = (passed_first c.args.variable c.args.made.now _ refl, omega arith)

pub returns-then-drops_it-clause-some : goal.returns-then-drops_it-clause-some
returns-then-drops_it-clause-some c =
    found_drop c.args.variable c.args.made.now c.back.left (c.back.left - 1) c.index-made-left.result
    (omega (arith, c.back-test.true))
    (omega (arith, c.back-test.true, c.back.invariant.1)) c.index-made-left.is c.back.invariant.0
    (sym c.drops_it.ensures ∙ c.if-drops_it.true)

pub returns-then-not-lets_past-clause-none : goal.returns-then-not-lets_past-clause-none
returns-then-not-lets_past-clause-none c =
    found_none c.args.variable c.args.made.now c.back.left (c.back.left - 1) c.index-made-left.result
    (omega (arith, c.back-test.true))
    (omega (arith, c.back-test.true, c.back.invariant.1)) c.index-made-left.is c.back.invariant.0
    (sym c.drops_it.ensures ∙ c.if-drops_it.false) (sym c.lets_past.ensures ∙ c.if-not-lets_past.true)

pub back-preserved : goal.back-preserved
back-preserved c = (
  passed_next c.args.variable c.args.made.now c.back.left (c.back.left - 1) c.index-made-left.result
      (omega (arith, c.back-test.true))
      (omega (arith, c.back-test.true, c.back.invariant.1)) c.index-made-left.is c.back.invariant.0
      (sym c.drops_it.ensures ∙ c.if-drops_it.false) (sym c.lets_past.ensures ∙ c.if-not-lets_past.false),
  omega (arith, c.back-test.true, c.back.invariant.1),
)

pub returns-clause-none : goal.returns-clause-none
returns-clause-none c =
    passed_all c.args.variable c.args.made.now c.back.left (omega (arith, c.back-test.false)) c.back.invariant.0
