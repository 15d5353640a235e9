use Rattle.std.proofs.Common.{ap, ◌∙◌, add-one}
use Rattle.kk_syntax.specs.declared.program.Pat.TheVariants.{Wildcard}
use Rattle.kk_syntax.specs.Outlines.{any, outline}
use Rattle.kk_slots.specs.Problems.{stacked}
use Rattle.kk_slots.proofs.Slots.{wildcard_outline}
use Rattle.kk_rows.proofs.Stacks.{stacked_push}
use Rattle.kk_rows.proofs.example.wildcards.Goals as goal

pub loop-place-preserved : goal.loop-place-preserved
loop-place-preserved c =
    rw add-one
    (ap stacked c.in_ok-push.ensures.items
    ∙ (stacked_push c.loop-place.stack.items Wildcard
    ∙ (ap (λ p. outline p (stacked c.loop-place.stack.items)) wildcard_outline ∙ ap (outline any) c.loop-place.invariant)))
