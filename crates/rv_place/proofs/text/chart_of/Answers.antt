use Rattle.std.proofs.Common.{◌≡◌, ℕ, ◌+◌, ◌*◌, List, Some, map, slice_get, sym, ap, ◌∙◌, subst, arith, refl}
use Rattle.elf_image.specs.Program.{text_start}
use Rattle.rv_isa.specs.declared.placed.Native.{Native}
use Rattle.rv_isa.specs.PlacedCode.{placed_lines_of, placed_functions, placed_constants, placed_natives}
use Rattle.cell_runtime.specs.Lines.{words_of, labels_of}
use Rattle.rv_place.specs.Addresses.{entries_from, frames_taken}
use Rattle.rv_place.specs.Texts.{jumps_of, text_words}
use Rattle.rv_place.specs.Emitted.{AreSymbols, addresses_from}
use Rattle.rv_place.proofs.TextParts.{entries_among, short_text, addresses_get}
use Rattle.rv_place.proofs.Symbolic.{symbols_within}
use Rattle.rv_place.specs.declared.reach.Reach.{Reach}
use Rattle.rv_place.proofs.text.chart_of.Goals as goal

pub returns : goal.returns
returns c =
    let runtime = c.args.runtime.now in
    let program = c.args.program.now in
    let first = text_start + 4 * words_of (placed_natives runtime) in
    let constants : c.in_ok-constants.constants.items ≡ addresses_from (text_start + 4 * text_words runtime program) (placed_constants program) =
    c.in_ok-constants.ensures
    ∙ ap (λ (words : ℕ). addresses_from (text_start + 4 * words) c.constants.result.now) c.text_words.ensures.words
    ∙ ap (addresses_from (text_start + 4 * text_words runtime program)) c.constants.ensures in
    record {
      jumps = c.jumps_of-jumps.ensures;
      frame = c.frame_bytes.ensures;
      entries =
          c.in_ok-entries.ensures
          ∙ ap (λ (jumps : Reach). entries_from jumps c.first_entry.result (map placed_lines_of c.functions.result.now)) c.jumps_of-jumps.ensures
          ∙ ap (λ (at : ℕ). entries_from (jumps_of runtime program) at (map placed_lines_of c.functions.result.now)) c.first_entry.ensures
          ∙ ap (entries_from (jumps_of runtime program) first) c.functions.ensures.functions;
      takes =
          c.in_ok-takes.ensures
          ∙ ap (λ (jumps : Reach). frames_taken jumps (map placed_lines_of c.functions-2.result.now)) c.jumps_of-jumps.ensures
          ∙ ap (frames_taken (jumps_of runtime program)) c.functions-2.ensures.functions;
      entries_in = λ f entry there.
          let among = entries_among (jumps_of runtime program) first (placed_functions program) f entry there (omega arith) in
          record { word = among.word; low = omega (arith, among.low); high = omega (arith, among.high) };
      symbols_in = λ name before behind. let within = symbols_within name before 0 (placed_natives runtime) behind in omega (arith, within);
      first_word = refl;
      short = λ near. short_text runtime program near;
      below = let words = c.text_words.ensures.words in let few = c.text_words.ensures.few in omega arith;
      symbols = subst (λ (natives : List Native). AreSymbols text_start (labels_of 0 natives) c.of.result) c.natives.ensures c.of.ensures;
      constants = λ index address there.
          subst (λ (addresses : List ℕ). slice_get addresses index ≡ Some address) (sym constants)
          (addresses_get (text_start + 4 * text_words runtime program) (placed_constants program) index address there);
    }
