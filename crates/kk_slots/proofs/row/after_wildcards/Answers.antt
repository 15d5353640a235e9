use Rattle.std.proofs.Common.{ap, List, ◌++◌, replicate, ◌∙◌}
use Rattle.kk_slots.specs.declared.problem.Slot.{Slot}
use Rattle.kk_slots.specs.declared.problem.Slot.TheVariants.{Any}
use Rattle.kk_slots.specs.Narrowing.{join}
use Rattle.kk_slots.specs.Problems.{row_view}
use Rattle.kk_slots.proofs.Slots.{view-append, wildcards_view}
use Rattle.kk_slots.proofs.row.after_wildcards.Goals as goal

pub returns : goal.returns
returns c =
    ap row_view c.in_ok-extend_from_slice.ensures.items
    ∙ (ap (λ (xs : List Slot). row_view (xs ++ c.args.rest.now)) (c.in_ok-slots.ensures.items_if_clones_equal (λ y e. e))
    ∙ (view-append (replicate c.args.count Any) c.args.rest.now
    ∙ ap (λ ps. join ps (row_view c.args.rest.now)) (wildcards_view c.args.count)))
