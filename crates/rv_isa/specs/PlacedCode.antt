-- The placed form as mathematics, without pointers and capacities.
use Rattle.std.specs.Prelude.{ℕ, List, [], Option, map}
use Rattle.rv_isa.specs.declared.asm.Action.{Action}
use Rattle.rv_isa.specs.declared.placed.DataSection.{DataSection}
use Rattle.rv_isa.specs.declared.placed.Native.{Native}
use Rattle.rv_isa.specs.declared.placed.Placed.{Placed}
use Rattle.rv_isa.specs.declared.placed.Placed.TheVariants.{Runtime, Program}
use Rattle.rv_isa.specs.declared.placed.PlacedFunction.{PlacedFunction}
use Rattle.rv_isa.specs.declared.placed.Place.{Place}
use Rattle.rv_isa.specs.declared.placed.Place.TheVariants.{Register as register, Slot as slot}
use Rattle.rv_isa.specs.declared.placed.Operand.{Operand}
use Rattle.rv_isa.specs.declared.placed.Listed.{Listed}
use Rattle.rv_isa.specs.declared.placed.Way.{Way}
use Rattle.rv_isa.specs.declared.placed.Way.TheVariants.{Copy, Load, Store}
use Rattle.rv_isa.specs.declared.placed.Item.{Item}
use Rattle.rv_isa.specs.declared.placed.Item.TheVariants.{Does, Moves}

-- a statement with its places, or a move; both list what is alive before them
pub data PlacedLine : Type 0 where
  does : (alive : List Listed) → (action : Action) → (args : List Operand) → (into : Option Operand) → PlacedLine
  moves : (alive : List Listed) → (value : ℕ) → (way : Way) → PlacedLine

-- a function: its parameters and its code
pub record PlacedLines : Type 0 where
  pub params : List ℕ
  pub code : List PlacedLine

abbrev pub placed_line_of : Item → PlacedLine
placed_line_of (Does alive action args into) = does alive.items action args.items into
placed_line_of (Moves alive value way) = moves alive.items value way

abbrev pub placed_lines_of : PlacedFunction → PlacedLines
placed_lines_of f = record { params = f.params.items; code = map placed_line_of f.code.items }

-- the lines of a text over named registers, as the runtime has them; a program has none
abbrev pub placed_natives : Placed → List Native
placed_natives (Runtime lines memory) = lines.items
placed_natives (Program functions constants) = []

-- the memory that a text may write; a program has none of its own
abbrev pub placed_memory : Placed → DataSection
placed_memory (Runtime lines memory) = memory
placed_memory (Program functions constants) = record { size = 0; stack_bottom = 0 }

-- the functions of a text; a call names one by its index; a runtime has none
abbrev pub placed_functions : Placed → List PlacedLines
placed_functions (Runtime lines memory) = []
placed_functions (Program functions constants) = map placed_lines_of functions.items

-- the constant bytes of a text; a runtime has none
abbrev pub placed_constants : Placed → List (List ℕ)
placed_constants (Runtime lines memory) = []
placed_constants (Program functions constants) = constants.items

-- the two ends of a way
abbrev pub from_of : Way → Place
from_of (Copy from to) = register from
from_of (Load from to) = slot from
from_of (Store from to) = register from

abbrev pub to_of : Way → Place
to_of (Copy from to) = register to
to_of (Load from to) = register to
to_of (Store from to) = slot to
