use Rattle.std.proofs.Common.{◌≡◌, ap, List, map, ◌∙◌}
use Rattle.std.proofs.lemmas.List.{take_all}
use Rattle.kk_slots.specs.Narrowing.{join}
use Rattle.kk_syntax.specs.Outlines.{Outline, outline_list, pattern_outline}
use Rattle.kk_slots.specs.Problems.{slot_outline, row_view}
use Rattle.kk_slots.proofs.Slots.{view-append}
use Rattle.kk_slots.proofs.row.after_parts.Goals as goal

pub returns : goal.returns
returns c =
    let parts : map slot_outline c.loop-part.slots.items ≡ map pattern_outline c.args.parts.now =
    c.loop-part.invariant ∙ ap (map pattern_outline) (take_all c.loop-part.part-index c.args.parts.now c.loop-part-test.false) in
    ap row_view c.in_ok-extend_from_slice.ensures.items
    ∙ (view-append c.loop-part.slots.items c.args.rest.now
    ∙ ap (λ (xs : List Outline). join (outline_list xs) (row_view c.args.rest.now)) parts)
