-- What the assignment of registers gives can be placed: its frames are small.
use Rattle.std.proofs.Common.{◌≡◌, ◌≤◌, ◌+◌, ◌*◌, ℕ, suc, List, [], ◌∷◌, All, length, refl, ap, arith}
use Rattle.std.proofs.lemmas.List.Elements.{All-head}
use Rattle.rv_isa.specs.declared.placed.Operand.{Operand}
use Rattle.rv_isa.specs.declared.placed.Place.{Place}
use Rattle.rv_isa.specs.declared.placed.Place.TheVariants.{Register as register, Slot as slot}
use Rattle.rv_isa.specs.AsmCode.{Lines}
use Rattle.rv_isa.specs.PlacedCode.{PlacedLine, does, moves, PlacedLines, from_of, to_of}
use Rattle.rv_regs.specs.Conditions.{ArePlacings}
use Rattle.rv_regs.specs.Shape.{IsBelow, HasSlotsBelow, AllSlotsBelow, HaveSlotsBelow}
use Rattle.rv_isa.specs.FrameSizes.{slots_of_place, slots_of_operands, slots_of_line, slots_of_lines, slots_of_functions, frame_size}

module _ (most : ℕ) where
  place_most : (place : Place) → IsBelow most place → slots_of_place place ≤ most
  place_most (register r) below = omega arith
  place_most (slot k) below = omega (arith, below)

  operands_most : (operands : List Operand) → All (λ (operand : Operand). IsBelow most operand.place) operands
      → slots_of_operands operands ≤ most
  operands_most [] below = omega arith
  operands_most (operand ∷ operands) below =
      let first = place_most operand.place (All-head (λ (o : Operand). IsBelow most o.place) operand operands below) in
      let rest = operands_most operands (λ k d lt. below (suc k) d (omega (arith, lt))) in
      omega (arith, first, rest)

  line_most : (line : PlacedLine) → HasSlotsBelow most line → slots_of_line line ≤ most
  line_most (does alive action args into) below = operands_most args below.1.0
  line_most (moves alive value way) below =
      let from = place_most (from_of way) below.1.0 in
      let to = place_most (to_of way) below.1.1 in
      omega (arith, from, to)

  lines_most : (lines : List PlacedLine) → AllSlotsBelow most lines → slots_of_lines lines ≤ most
  lines_most [] below = omega arith
  lines_most (line ∷ lines) below =
      let first = line_most line below.0 in
      let rest = lines_most lines below.1 in
      omega (arith, first, rest)

  -- each function has few slots
  pub slots_most : (functions : List PlacedLines) → HaveSlotsBelow most functions → slots_of_functions functions ≤ most
  slots_most [] below = omega arith
  slots_most (function ∷ functions) below =
      let first = lines_most function.code below.0 in
      let rest = slots_most functions below.1 in
      omega (arith, first, rest)

  -- a frame has a word for the way back and one for each slot
  pub frame_most : (functions : List PlacedLines) → HaveSlotsBelow most functions → frame_size functions ≤ 4 * most + 4
  frame_most functions below = let slots = slots_most functions below in omega (arith, slots)

-- as many functions are placed as there are
pub as_many : (functions : List Lines) (placed : List PlacedLines) → ArePlacings functions placed → length placed ≡ length functions
as_many [] [] all = refl
as_many [] (p ∷ placed) all = absurd all
as_many (f ∷ functions) [] all = absurd all
as_many (f ∷ functions) (p ∷ placed) all = ap suc (as_many functions placed all.1)
