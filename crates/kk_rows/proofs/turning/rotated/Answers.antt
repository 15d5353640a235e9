use Rattle.std.proofs.Common.{◌≡◌, ◌++◌, List, take, drop, ap, ◌∙◌}
use Rattle.std.proofs.lemmas.List.{take_min, drop_min}
use Rattle.kk_slots.specs.declared.problem.Slot.{Slot}
use Rattle.kk_slots.specs.Problems.{row_view}
use Rattle.kk_slots.proofs.Slots.{rotated_view}
use Rattle.kk_rows.proofs.turning.rotated.Goals as goal

pub returns : goal.returns
returns c =
    let row = c.args.row.now in
    let first : c.split_at.result.0.now ≡ take c.args.count row = c.split_at.ensures.front ∙ (ap (λ n. take n row) c.min.ensures ∙ take_min c.args.count row) in
    let rest : c.split_at.result.1.now ≡ drop c.args.count row = c.split_at.ensures.back ∙ (ap (λ n. drop n row) c.min.ensures ∙ drop_min c.args.count row) in
    ap row_view c.in_ok-extend_from_slice.ensures.items
    ∙ (ap (λ (xs : List Slot). row_view (xs ++ c.split_at.result.0.now)) (c.in_ok-slots.ensures.items ∙ rest)
    ∙ (ap (λ (xs : List Slot). row_view (drop c.args.count row ++ xs)) first ∙ rotated_view c.args.count row))
