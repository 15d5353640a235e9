use Rattle.std.proofs.Common.{◌≡◌, ◌+◌, ◌*◌, Some, refl, sym, ap, ◌∙◌, subst}
use Rattle.rv_isa.specs.declared.instr.Instr.TheVariants.{Lw}
use Rattle.cell_runtime.proofs.ItemEquality.{same_bne}
use Rattle.rv_place.specs.declared.reach.Reach.{Reach}
use Rattle.rv_place.specs.Registers.{ra, sp}
use Rattle.rv_place.specs.Addresses.{words_of_shift, entry_words, way_offset}
use Rattle.rv_place.specs.Instructions.{words_of_jump}
use Rattle.rv_place.specs.Lines.{IsFromPointer, ShiftsStack}
use Rattle.rv_place.proofs.Emissions.{grew_so, grew_then}
use Rattle.rv_place.proofs.LineInstructions.{entry_jump}
use Rattle.rv_place.proofs.emit.emit_bare_entry.Goals as goal

pub returns : goal.returns
returns c =
    let chart = c.args.chart.now in
    let near = c.requires.near in
    grew_so (ap (λ (j : Reach). 1 + (words_of_jump j + (1 + words_of_shift j))) near ∙ sym (ap entry_words near))
    (λ code at row is map charts inside.
    let back = row.1.1.0.0 in
    record {
      over = c.behind_entry-offset.result;
      over_is = c.behind_entry-offset.ensures ∙ ap (λ (j : Reach). 4 * entry_words j) charts.jumps;
      tests = row.0 ∙ ap Some (same_bne refl refl refl);
      full = λ target there. entry_jump charts code at target c.args.at is inside there row.1.0;
      back = back;
      back_is = subst (λ frame. IsFromPointer map.jumps (way_offset frame) back) charts.frame
          (subst (λ (j : Reach). IsFromPointer j (way_offset chart.frame) back) charts.jumps row.1.1.0.1);
      loads = subst (λ (j : Reach). code (at + 4 + 4 * words_of_jump j) ≡ Some (Lw ra sp back)) charts.jumps row.1.1.0.2;
      gives =
          subst (λ (j : Reach). ShiftsStack j map.frame code (at + 4 + 4 * words_of_jump j + 4)) charts.jumps
          (subst (λ frame. ShiftsStack chart.jumps frame code (at + 4 + 4 * words_of_jump chart.jumps + 4)) charts.frame row.1.1.1);
    })
    (grew_then c.in_ok-emit.ensures (grew_then c.in_ok-emit_jump.ensures c.in_ok-emit_leaving.ensures))
