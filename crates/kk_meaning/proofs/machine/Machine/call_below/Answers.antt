use Rattle.std.proofs.Common.{◌-◌, reverse, take, length, refl, sym, ap, ◌∙◌, subst}
use Rattle.kk_meaning.specs.Machines.{IsCallOf}
use Rattle.kk_meaning.proofs.FrameOrder.{newest_is}
use Rattle.kk_meaning.proofs.machine.Machine.call_below.Goals as goal

pub returns-in-Some-Call-clause-call : goal.returns-in-Some-Call-clause-call
returns-in-Some-Call-clause-call c =
    let below = take c.args.older c.deref.result.now in
    let frame = c.in-Some-Call.field-0.now in
    record {
      frame = frame;
      rest = reverse (take (length below - 1) below);
      newest = ap (λ l. reverse (take c.args.older l)) (sym c.deref.ensures.value) ∙ newest_is below frame c.in-Some-Call.ensures.item.3.0 c.in-Some-Call.ensures.item.1;
      call = subst (IsCallOf c.in-Some-Call.before) (sym c.in-Some-Call.field-0-is) refl;
    }
