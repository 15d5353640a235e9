use Rattle.std.proofs.Common.{◌≡◌, Some, ◌+◌, ◌-◌, ◌*◌, ◌^◌, subst, arith, refl}
use Rattle.rv_isa.specs.declared.instr.Instr.TheVariants.{Sw}
use Rattle.rv_place.specs.declared.reach.Reach.{Reach}
use Rattle.rv_place.specs.Registers.{ra, sp}
use Rattle.rv_place.specs.Addresses.{words_of_shift, words_to_frame, test_words, way_offset}
use Rattle.rv_place.specs.Instructions.{words_of_jump}
use Rattle.rv_place.specs.Lines.{IsFromPointer, ShiftsStack}
use Rattle.rv_place.proofs.Emissions.{grew_so, grew_then}
use Rattle.rv_place.proofs.LineInstructions.{test_on}
use Rattle.rv_place.proofs.emit.emit_framed_entry.Goals as goal

pub returns : goal.returns
returns c =
    let chart = c.args.chart.now in
    grew_so (omega arith)
    (λ code at row is map charts inside.
    let place : at + 4 * test_words chart.jumps ≡ at + 4 * words_to_frame chart.jumps + 4 + 4 * words_of_jump chart.jumps = omega arith in
    let back = row.1.1.0 in
    record {
      tests = test_on refl (row.0 is map charts (record { word = inside.word; low = inside.low; high = omega (arith, inside.high) }));
      takes =
          subst (λ (j : Reach). ShiftsStack j (2 ^ 32 - map.frame) code (at + 4 * words_to_frame j + 4 + 4 * words_of_jump j)) charts.jumps
          (subst (λ frame. ShiftsStack chart.jumps (2 ^ 32 - frame) code (at + 4 * words_to_frame chart.jumps + 4 + 4 * words_of_jump chart.jumps)) charts.frame
          (subst (λ p. ShiftsStack chart.jumps (2 ^ 32 - chart.frame) code p) place row.1.0));
      back = back;
      back_is = subst (λ frame. IsFromPointer map.jumps (way_offset frame) back) charts.frame
          (subst (λ (j : Reach). IsFromPointer j (way_offset chart.frame) back) charts.jumps row.1.1.1);
      saves =
          subst (λ (j : Reach). code (at + 4 * words_to_frame j + 4 + 4 * words_of_jump j + 4 * words_of_shift j) ≡ Some (Sw sp ra back)) charts.jumps
          (subst (λ p. code (p + 4 * words_of_shift chart.jumps) ≡ Some (Sw sp ra back)) place row.1.1.2);
    })
    (grew_then c.in_ok-emit_test.ensures c.in_ok-emit_taking.ensures)
