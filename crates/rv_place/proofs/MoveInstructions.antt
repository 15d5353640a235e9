-- Moves as instructions.
use Rattle.std.proofs.Common.{◌≡◌, ◌≤◌, ℕ, ◌+◌, ◌*◌, max, List, Some, refl, sym, ap, ◌∙◌, subst, arith}
use Rattle.rv_isa.specs.declared.register.Register.{Register}
use Rattle.rv_isa.specs.declared.immediate.Immediate.{Immediate}
use Rattle.rv_isa.specs.declared.instr.Instr.{Instr}
use Rattle.rv_isa.specs.declared.instr.Instr.TheVariants.{Addi, Lw, Sw}
use Rattle.rv_isa.specs.declared.placed.Way.{Way}
use Rattle.rv_isa.specs.declared.placed.Way.TheVariants.{Copy, Load, Store}
use Rattle.rv_isa.specs.PlacedCode.{from_of, to_of}
use Rattle.cell_runtime.proofs.ItemEquality.{same_lw, same_sw}
use Rattle.rv_isa.specs.FrameSizes.{slots_of_place}
use Rattle.rv_place.specs.Addresses.{slot_offset, way_offset}
use Rattle.rv_place.specs.declared.chart.Chart.{Chart}
use Rattle.rv_place.specs.declared.reach.Reach.{Reach}
use Rattle.rv_place.specs.Lines.{IsFromPointer}
use Rattle.rv_place.specs.Emitted.{Grew, MoveBy}
use Rattle.rv_place.proofs.Emissions.{grew_so}

-- the slots of a way are within a frame
abbrev pub Within : Chart → Way → Type 0
Within chart way = 4 * max (slots_of_place (from_of way)) (slots_of_place (to_of way)) + 4 ≤ chart.frame

module _ (chart : Chart) {old new : List Instr} where
  pub moves_copy : {way : Way} {from to : Register} {zero : Immediate} → way ≡ Copy from to → zero.word ≡ 0
      → Grew 1 (λ code at. code at ≡ Some (Addi to from zero)) old new → Grew 1 (MoveBy chart way) old new
  moves_copy {way} {from} {to} {zero} is zero_is emitted =
      subst (λ w. Grew 1 (MoveBy chart w) old new) (sym is) (grew_so refl (λ code at here map charts. (zero, zero_is, here)) emitted)

  pub moves_load : {way : Way} {from : ℕ} {to stack : Register} {offset : Immediate} → way ≡ Load from to → IsFromPointer chart.jumps (slot_offset from) offset → Within chart way
      → stack.number ≡ 2 → Grew 1 (λ code at. code at ≡ Some (Lw to stack offset)) old new → Grew 1 (MoveBy chart way) old new
  moves_load {way} {from} {to} {stack} {offset} is offset_is inside stack_is emitted =
      let at_way : 4 * max (from + 1) 0 + 4 ≤ chart.frame = subst (Within chart) is inside in
      let within : slot_offset from + 4 ≤ way_offset chart.frame = omega arith in
      subst (λ w. Grew 1 (MoveBy chart w) old new) (sym is)
      (grew_so refl (λ code at here map charts. (offset, (subst (λ (j : Reach). IsFromPointer j (slot_offset from) offset) charts.jumps offset_is, subst (λ f. slot_offset from + 4 ≤ way_offset f) charts.frame within), here ∙ ap Some (same_lw refl stack_is refl))) emitted)

  pub moves_store : {way : Way} {from stack : Register} {to : ℕ} {offset : Immediate} → way ≡ Store from to → IsFromPointer chart.jumps (slot_offset to) offset → Within chart way
      → stack.number ≡ 2 → Grew 1 (λ code at. code at ≡ Some (Sw stack from offset)) old new → Grew 1 (MoveBy chart way) old new
  moves_store {way} {from} {stack} {to} {offset} is offset_is inside stack_is emitted =
      let at_way : 4 * max 0 (to + 1) + 4 ≤ chart.frame = subst (Within chart) is inside in
      let within : slot_offset to + 4 ≤ way_offset chart.frame = omega arith in
      subst (λ w. Grew 1 (MoveBy chart w) old new) (sym is)
      (grew_so refl (λ code at here map charts. (offset, (subst (λ (j : Reach). IsFromPointer j (slot_offset to) offset) charts.jumps offset_is, subst (λ f. slot_offset to + 4 ≤ way_offset f) charts.frame within), here ∙ ap Some (same_sw stack_is refl refl))) emitted)
