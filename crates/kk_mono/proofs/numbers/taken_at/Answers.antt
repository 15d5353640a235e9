use Rattle.std.proofs.Common.{subst, sym}
use Rattle.std.proofs.lemmas.List.Elements.{all_zip_more}
use Rattle.std.specs.List.{AllZip}
use Rattle.std.proofs.Common.{take, ◌+◌}
use Rattle.kk_mono.specs.Places.{Renumbers}
use Rattle.kk_mono.proofs.numbers.taken_at.Goals as goal

pub loop-choice-preserved : goal.loop-choice-preserved
loop-choice-preserved c =
    subst (λ ms. AllZip (Renumbers c.args.numbers.now) (take (c.loop-choice.choice-index + 1) c.args.taken.now) ms) (sym c.in_ok-push.ensures.items)
    (all_zip_more (Renumbers c.args.numbers.now) c.args.taken.now c.loop-choice.made.items c.loop-choice.choice-index c.choice-item.result c.in_ok-choice_at.field-0 c.loop-choice-test.true c.choice-item.is c.loop-choice.invariant c.in_ok-choice_at.ensures)
