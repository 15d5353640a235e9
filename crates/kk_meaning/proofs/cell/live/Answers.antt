use Rattle.std.proofs.Common.{◌≡◌, map, length, drop, arith, refl, ap, ◌∙◌}
use Rattle.std.proofs.lemmas.List.{length-map}
use Rattle.kk_source.specs.Live.{counted}
use Rattle.kk_meaning.specs.View.{value_view, cell_view}
use Rattle.kk_meaning.specs.Marks.{is_marked}
use Rattle.kk_meaning.proofs.Lists.{front_again}
use Rattle.kk_meaning.proofs.Marks.{counted_live}
use Rattle.kk_meaning.proofs.cell.live.Goals as goal

pub returns : goal.returns
returns c =
    let marks = c.mark_live.new.marks in
    let len : c.in_ok-marks.marks.len ≡ length marks = omega (arith, c.mark_live.auto.marks, c.deref_mut.ensures.len) in
    let now : c.deref.result.now ≡ marks = c.deref.ensures.value ∙ front_again marks (drop (length marks) c.in_ok-marks.marks.items) _ c.in_ok-marks.marks.len len refl in
    let whole : length marks ≡ length (map cell_view c.args.store.now) = omega (arith, c.in_ok-marks.ensures.len, length-map c.args.store.now cell_view) in
    c.count.ensures
    ∙ (ap (λ m. counted (is_marked m) (length m)) now
    ∙ counted_live (map cell_view c.args.store.now) c.requires (map value_view c.args.held.now) marks whole
    (λ at lt. c.mark_live.ensures at (omega (arith, length-map c.args.store.now cell_view))))
