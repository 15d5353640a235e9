use Rattle.std.proofs.Common.{◌+◌, List, map, ap, sym, subst, ◌*◌, ◌≡◌, ◌∙◌, ℕ}
use Rattle.rv_isa.specs.declared.placed.Item.{Item}
use Rattle.rv_isa.specs.PlacedCode.{placed_line_of, placed_lines_of}
use Rattle.rv_place.specs.Emitted.{HasLabels}
use Rattle.rv_place.proofs.LineInstructions.{entry_then}
use Rattle.rv_isa.specs.PlacedCode.{PlacedLine}
use Rattle.rv_place.specs.Addresses.{words_of_lines, entry_words, forms_of}
use Rattle.rv_place.specs.Emitted.{Grew, LinesBy}
use Rattle.rv_place.specs.declared.reach.Forms.{Forms}
use Rattle.rv_place.proofs.lines.emit_function.Goals as goal

pub returns : goal.returns
returns c =
    let labels = c.in_ok-labels.labels in
    let chart = c.args.chart.now in
    let function = placed_lines_of c.args.function.now in
    let start : c.args.entry + 4 * c.entry_words.result ≡ c.args.entry + 4 * entry_words chart.jumps = ap (λ n. c.args.entry + 4 * n) c.entry_words.ensures.words in
    let has =
    subst (λ (at : ℕ). HasLabels labels at function.code) start
    (subst (λ (items : List Item). HasLabels labels (c.args.entry + 4 * c.entry_words.result) (map placed_line_of items)) c.deref-2.ensures.value c.in_ok-labels.ensures.labels) in
    let forms : labels.forms ≡ forms_of chart.jumps function.code =
    c.in_ok-labels.ensures.forms ∙ c.forms_of-forms.ensures.same ∙ ap (λ (items : List Item). forms_of chart.jumps (map placed_line_of items)) c.deref.ensures.value in
    let lines : List PlacedLine = map placed_line_of c.deref-3.result.now in
    entry_then chart labels c.args.entry function lines (ap (map placed_line_of) c.deref-3.ensures.value) forms has c.forms_of-forms.result.frame (ap (λ (forms : Forms). forms.frame) (sym c.in_ok-labels.ensures.forms ∙ forms)) c.in_ok-emit_entry.ensures
    (subst (λ (at : ℕ). Grew (words_of_lines labels.forms lines) (LinesBy chart labels at lines) c.emit_entry.new.code.items c.emit_items.new.code.items) start c.in_ok-emit_items.ensures)
