use Rattle.std.proofs.Common.{List, map, sym, ap, subst, arith}
use Rattle.rv_isa.specs.Costs.{placed_code_length}
use Rattle.rv_isa.specs.PlacedCode.{PlacedLine, placed_line_of}
use Rattle.rv_isa.specs.FrameSizes.{slots_of_lines}
use Rattle.rv_place.specs.Addresses.{words_of_lines}
use Rattle.rv_place.specs.Emitted.{Grew, LinesBy}
use Rattle.rv_place.proofs.Emissions.{grew_nothing}
use Rattle.rv_place.proofs.Rests.{rest_at, nothing_left}
use Rattle.rv_place.proofs.LineInstructions.{line_then}
use Rattle.rv_place.proofs.lines.emit_items.Goals as goal

pub loop-item-preserved : goal.loop-item-preserved
loop-item-preserved c =
    let items = c.args.items.now in
    let here = ap (map placed_line_of) (rest_at items c.loop-item.item-index c.item-item.result c.loop-item-test.true c.item-item.is) in
    let slots = ap slots_of_lines here in
    let lengths = ap placed_code_length here in
    record {
      grows = λ new more. c.loop-item.invariant.grows new
          (subst (λ (lines : List PlacedLine). Grew (words_of_lines c.args.labels.now.forms lines) (LinesBy c.args.chart.now c.args.labels.now c.loop-item.at lines) c.loop-item.code.items new) (sym here)
          (line_then c.args.chart.now c.args.labels.now c.loop-item.at c.words_of_item.result _ _ c.words_of_item.ensures.words c.in_ok-emit_item.ensures more));
      slots = omega (arith, slots, c.loop-item.invariant.slots);
      low = omega (arith, lengths, c.words_of_item.ensures.few, c.loop-item.invariant.low);
    }

pub returns : goal.returns
returns c =
    let items = c.args.items.now in
    let none = ap (map placed_line_of) (nothing_left items c.loop-item.item-index c.loop-item-test.false) in
    c.loop-item.invariant.grows _
    (subst (λ (lines : List PlacedLine). Grew (words_of_lines c.args.labels.now.forms lines) (LinesBy c.args.chart.now c.args.labels.now c.loop-item.at lines) c.loop-item.code.items c.loop-item.code.items) (sym none)
    (grew_nothing _ _ (λ code at is map charts start whole has inside. tt)))
