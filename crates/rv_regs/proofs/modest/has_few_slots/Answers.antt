use Rattle.std.proofs.Common.{List, map, subst}
use Rattle.rv_isa.specs.declared.placed.Item.{Item}
use Rattle.rv_isa.specs.PlacedCode.{placed_line_of, placed_lines_of}
use Rattle.rv_regs.specs.Shape.{AllSlotsBelow}
use Rattle.rv_regs.proofs.Shapes.{slots_more}
use Rattle.rv_regs.proofs.modest.has_few_slots.Goals as goal

pub returns : goal.returns
returns c few = record {
  below = λ most below.
      slots_more c.count_of_values.result most (placed_lines_of c.args.placed.now).code (c.count_of_values.ensures most below)
      (subst (λ (code : List Item). AllSlotsBelow c.count_of_values.result (map placed_line_of code)) c.deref.ensures.value
      (c.all_slots_below.ensures few));
}
