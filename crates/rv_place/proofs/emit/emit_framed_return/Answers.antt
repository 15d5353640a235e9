use Rattle.std.proofs.Common.{◌≡◌, ◌+◌, ◌*◌, Some, subst, arith}
use Rattle.rv_isa.specs.declared.instr.Instr.TheVariants.{Jalr}
use Rattle.rv_place.specs.declared.reach.Reach.{Reach}
use Rattle.rv_place.specs.Registers.{zero_register, ra}
use Rattle.rv_place.specs.Addresses.{words_of_shift, way_offset}
use Rattle.rv_place.specs.Lines.{IsFromPointer, ShiftsStack}
use Rattle.rv_place.proofs.Emissions.{grew_so, grew_then}
use Rattle.rv_place.proofs.emit.emit_framed_return.Goals as goal

pub returns : goal.returns
returns c =
    let chart = c.args.chart.now in
    grew_so (omega arith)
    (λ code at row map charts.
    let back = row.0.0.0 in
    let zero = row.1.0 in
    let place : at + 4 * (1 + words_of_shift chart.jumps) ≡ at + 4 + 4 * words_of_shift chart.jumps = omega arith in
    record {
      back = back;
      back_is = subst (λ frame. IsFromPointer map.jumps (way_offset frame) back) charts.frame
          (subst (λ (j : Reach). IsFromPointer j (way_offset chart.frame) back) charts.jumps row.0.0.1);
      loads = row.0.0.2;
      gives = subst (λ (j : Reach). ShiftsStack j map.frame code (at + 4)) charts.jumps
          (subst (λ frame. ShiftsStack chart.jumps frame code (at + 4)) charts.frame row.0.1);
      zero = zero;
      zero_is = row.1.1;
      goes = subst (λ (j : Reach). code (at + 4 + 4 * words_of_shift j) ≡ Some (Jalr zero_register ra zero)) charts.jumps
          (subst (λ p. code p ≡ Some (Jalr zero_register ra zero)) place row.1.2);
    })
    (grew_then c.in_ok-emit_leaving.ensures c.in_ok-emit_going.ensures)
