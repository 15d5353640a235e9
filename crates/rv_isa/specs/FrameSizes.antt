-- How large the frames of placed code are: each has a word for the way back, and one for each slot.
use Rattle.std.specs.Prelude.{ℕ, ◌+◌, ◌*◌, ◌/◌, max, List, [], ◌∷◌}
use Rattle.rv_isa.specs.declared.placed.Place.{Place}
use Rattle.rv_isa.specs.declared.placed.Place.TheVariants.{Register as register, Slot as slot}
use Rattle.rv_isa.specs.declared.placed.Operand.{Operand}
use Rattle.rv_isa.specs.PlacedCode.{PlacedLine, does, moves, PlacedLines, from_of, to_of}
use Rattle.rv_isa.specs.Sizes.{reach_down}

-- a number above the slot of a place
abbrev pub slots_of_place : Place → ℕ
slots_of_place (register r) = 0
slots_of_place (slot k) = k + 1

abbrev pub slots_of_operands : List Operand → ℕ
slots_of_operands [] = 0
slots_of_operands (operand ∷ operands) = max (slots_of_place operand.place) (slots_of_operands operands)

-- the slots that a line moves to or from, or holds a token in
abbrev pub slots_of_line : PlacedLine → ℕ
slots_of_line (does alive action args into) = slots_of_operands args
slots_of_line (moves alive value way) = max (slots_of_place (from_of way)) (slots_of_place (to_of way))

abbrev pub slots_of_lines : List PlacedLine → ℕ
slots_of_lines [] = 0
slots_of_lines (line ∷ lines) = max (slots_of_line line) (slots_of_lines lines)

abbrev pub slots_of_functions : List PlacedLines → ℕ
slots_of_functions [] = 0
slots_of_functions (function ∷ functions) = max (slots_of_lines function.code) (slots_of_functions functions)

-- the bytes of a frame: all functions have frames of one size
abbrev pub frame_size : List PlacedLines → ℕ
frame_size functions = 4 * slots_of_functions functions + 4

-- how many slots a program may have for its frame's size to be told: as many as a load reaches words, some more than a frame has
abbrev pub most_frame_slots : ℕ
most_frame_slots = 2 * reach_down / 4
