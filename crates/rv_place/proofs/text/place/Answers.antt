use Rattle.std.proofs.Common.{◌≡◌, ℕ, ◌+◌, ◌*◌, List, length, length-append, sym, ap, ◌∙◌, subst, arith}
use Rattle.elf_image.specs.Program.{text_start}
use Rattle.rv_isa.specs.declared.placed.Native.{Native}
use Rattle.rv_isa.specs.PlacedCode.{PlacedLines, placed_functions, placed_natives}
use Rattle.cell_runtime.specs.Operations.{all_bytes}
use Rattle.cell_runtime.specs.Lines.{Spells, words_of}
use Rattle.rv_place.specs.Addresses.{words_of_functions}
use Rattle.rv_place.specs.Texts.{jumps_of, map_of}
use Rattle.rv_place.specs.declared.reach.Reach.{Reach}
use Rattle.rv_place.specs.Emitted.{Grew, FunctionsBy}
use Rattle.rv_place.proofs.TextParts.{functions_at}
use Rattle.rv_place.proofs.text.place.Goals as goal

pub returns : goal.returns
returns c =
    let runtime = c.args.runtime.now in
    let program = c.args.program.now in
    let own = c.in_ok-instructions.instructions.items in
    let new = c.emit_functions.new.code.items in
    let first = text_start + 4 * words_of (placed_natives runtime) in
    let own_size : length own ≡ words_of (placed_natives runtime) = c.in_ok-instructions.ensures.size ∙ ap words_of c.natives.ensures in
    let jumps : Reach = c.in_ok-chart.chart.jumps in
    let sized : words_of_functions jumps (placed_functions program) ≡ words_of_functions (jumps_of runtime program) (placed_functions program) =
    ap (λ (j : Reach). words_of_functions j (placed_functions program)) c.in_ok-chart.ensures.jumps in
    let grew : Grew (words_of_functions jumps (placed_functions program)) (FunctionsBy c.in_ok-chart.chart first (placed_functions program)) own new =
    subst (λ (at : ℕ). Grew (words_of_functions jumps (placed_functions program)) (FunctionsBy c.in_ok-chart.chart at (placed_functions program)) own new) c.first_entry.ensures
    (subst (λ (functions : List PlacedLines). Grew (words_of_functions jumps functions) (FunctionsBy c.in_ok-chart.chart c.first_entry.result functions) own new)
    c.functions.ensures.functions c.in_ok-emit_functions.ensures) in
    let added = grew.spelled.size in
    let sum = ap length grew.whole ∙ length-append own grew.added in
    record {
      own = own;
      rest = grew.added;
      instructions = grew.whole;
      spelled =
          subst (λ (memory : ℕ). Spells memory (placed_natives runtime) own) c.memory_of-memory.ensures.address
          (subst (λ (natives : List Native). Spells c.memory_of-memory.result natives own) c.natives.ensures c.in_ok-instructions.ensures.spelled);
      own_size = own_size;
      size = omega arith;
      functions = functions_at (placed_functions program) (map_of runtime program) c.in_ok-chart.ensures (ap (λ (n : ℕ). text_start + 4 * n) (sym own_size))
          (record { word = omega arith; low = omega arith; high = omega arith }) grew;
      constants = c.in_ok-constants.ensures ∙ ap all_bytes c.constants.ensures;
    }
