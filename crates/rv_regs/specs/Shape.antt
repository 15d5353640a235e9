-- The shape of code with places: what the layer below rests on.
use Rattle.std.specs.Prelude.{◌≡◌, ◌<◌, ◌≤◌, ◌+◌, ◌*◌, ℕ, List, [], ◌∷◌, Option, Some, None, All, length}
use Rattle.std.specs.List.{AllByRecursion}
use Rattle.rv_isa.specs.declared.placed.Listed.{Listed}
use Rattle.rv_isa.specs.declared.placed.Operand.{Operand}
use Rattle.rv_isa.specs.declared.placed.Place.{Place}
use Rattle.rv_isa.specs.declared.placed.Place.TheVariants.{Register as register, Slot as slot}
use Rattle.rv_isa.specs.declared.placed.Placed.{Placed}
use Rattle.rv_isa.specs.AsmCode.{Lines}
use Rattle.rv_isa.specs.PlacedCode.{PlacedLine, does, moves, PlacedLines, placed_functions, from_of, to_of, placed_memory}
use Rattle.rv_isa.specs.Costs.{move_instructions, code_length, functions_length, placed_code_length, placed_functions_length}
use Rattle.rv_isa.specs.ValueBounds.{HasValuesBelow, HaveValuesBelow}
use Rattle.rv_regs.specs.Conditions.{IsPlacing}
use Rattle.rv_regs.specs.Relation.{FunctionFewMoves, AllFewMoves}

-- ---- slots

abbrev pub IsBelow : ℕ → Place → Type 0
IsBelow most (register r) = Unit {0}
IsBelow most (slot k) = k < most

abbrev pub IsResultBelow : ℕ → Option Operand → Type 0
IsResultBelow most None = Unit {0}
IsResultBelow most (Some into) = IsBelow most into.place

-- the slots of what is listed before a line, and of what it reads and writes
abbrev pub HasSlotsBelow : ℕ → PlacedLine → Type 0
HasSlotsBelow most (does alive action args into) = All (λ (l : Listed). IsBelow most l.place) alive × (All (λ (arg : Operand). IsBelow most arg.place) args × IsResultBelow most into)
HasSlotsBelow most (moves alive value way) = All (λ (l : Listed). IsBelow most l.place) alive × (IsBelow most (from_of way) × IsBelow most (to_of way))

abbrev pub AllSlotsBelow : ℕ → List PlacedLine → Type 0
AllSlotsBelow most code = AllByRecursion (HasSlotsBelow most) code

-- ---- all of it

-- the slots of a function with places are below each number that all values of the function are below
pub record HasOwnSlots (function : Lines) (placed : PlacedLines) : Type 0 where
  pub below : (most : ℕ) → HasValuesBelow most function → AllSlotsBelow most placed.code

-- a function with places: it has few moves, no more slots than the function has values, and it is short
pub record IsModest (function : Lines) (placed : PlacedLines) : Type 0 where
  pub few_moves : FunctionFewMoves placed
  pub slots : HasOwnSlots function placed
  pub short : placed_code_length placed.code ≤ length function.params * move_instructions + code_length function.code

-- one that is the function over values, besides
pub record IsRight (function : Lines) (placed : PlacedLines) : Type 0 where
  pub placing : IsPlacing function placed
  pub modest : IsModest function placed

abbrev pub AreRight : List Lines → List PlacedLines → Type 0
AreRight [] [] = Unit {0}
AreRight [] (placed ∷ more) = ⊥
AreRight (function ∷ functions) [] = ⊥
AreRight (function ∷ functions) (placed ∷ more) = IsRight function placed × AreRight functions more

-- the slots of each function of a program
abbrev pub HaveSlotsBelow : ℕ → List PlacedLines → Type 0
HaveSlotsBelow most placed = AllByRecursion (λ (function : PlacedLines). AllSlotsBelow most function.code) placed

-- a program with places that take no more moves, slots and instructions than the plainest ones may, and which has no memory of its own
pub record IsPlainlyPlaced (functions : List Lines) (placed : Placed) : Type 0 where
  pub few_moves : AllFewMoves (placed_functions placed)
  pub slots : (most : ℕ) → HaveValuesBelow most functions → HaveSlotsBelow most (placed_functions placed)
  pub short : placed_functions_length (placed_functions placed) ≤ functions_length functions
  pub memory : placed_memory placed ≡ record { size = 0; stack_bottom = 0 }
