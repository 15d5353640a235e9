-- Programs whose functions with places are right, each by itself.
use Rattle.std.proofs.Common.{◌≡◌, ◌≤◌, ℕ, List, [], ◌∷◌, ◌++◌, arith}
use Rattle.rv_isa.specs.declared.placed.Placed.{Placed}
use Rattle.rv_isa.specs.AsmCode.{Lines}
use Rattle.rv_isa.specs.Costs.{functions_length, placed_functions_length}
use Rattle.rv_isa.specs.PlacedCode.{PlacedLines, placed_functions, placed_memory}
use Rattle.rv_isa.specs.ValueBounds.{HaveValuesBelow}
use Rattle.rv_isa.specs.WellFormed.{IsWellFormed}
use Rattle.rv_regs.specs.Conditions.{ArePlacings}
use Rattle.rv_regs.specs.Plain.{placed_function}
use Rattle.rv_regs.specs.Relation.{AllFewMoves}
use Rattle.rv_regs.specs.Shape.{HaveSlotsBelow, IsRight, AreRight, IsPlainlyPlaced}
use Rattle.rv_regs.proofs.PlainPlaces.{is_placing}
use Rattle.rv_regs.proofs.Shapes.{plain_modest}

-- a function in the plainest places is right
pub plain_right : (f : Lines) → IsWellFormed f → IsRight f (placed_function f)
plain_right f formed = record { placing = is_placing f formed; modest = plain_modest f formed }

-- what is right is valid
pub right_placings : (functions : List Lines) (placed : List PlacedLines) → AreRight functions placed → ArePlacings functions placed
right_placings [] [] right = tt
right_placings [] (p ∷ ps) right = absurd right
right_placings (f ∷ fs) [] right = absurd right
right_placings (f ∷ fs) (p ∷ ps) right = (right.0.placing, right_placings fs ps right.1)

-- and has its shape
right_moves : (functions : List Lines) (placed : List PlacedLines) → AreRight functions placed → AllFewMoves placed
right_moves [] [] right = tt
right_moves [] (p ∷ ps) right = absurd right
right_moves (f ∷ fs) [] right = absurd right
right_moves (f ∷ fs) (p ∷ ps) right = (right.0.modest.few_moves, right_moves fs ps right.1)

right_slots : (most : ℕ) (functions : List Lines) (placed : List PlacedLines) → AreRight functions placed
    → HaveValuesBelow most functions → HaveSlotsBelow most placed
right_slots most [] [] right below = tt
right_slots most [] (p ∷ ps) right below = absurd right
right_slots most (f ∷ fs) [] right below = absurd right
right_slots most (f ∷ fs) (p ∷ ps) right below = (right.0.modest.slots.below most below.0, right_slots most fs ps right.1 below.1)

right_length : (functions : List Lines) (placed : List PlacedLines) → AreRight functions placed → placed_functions_length placed ≤ functions_length functions
right_length [] [] right = omega arith
right_length [] (p ∷ ps) right = absurd right
right_length (f ∷ fs) [] right = absurd right
right_length (f ∷ fs) (p ∷ ps) right = omega (arith, right.0.modest.short, right_length fs ps right.1)

pub right_shape : (functions : List Lines) (placed : Placed) → AreRight functions (placed_functions placed) → placed_memory placed ≡ record { size = 0; stack_bottom = 0 }
    → IsPlainlyPlaced functions placed
right_shape functions placed right memory =
    record {
      few_moves = right_moves functions (placed_functions placed) right;
      slots = λ most below. right_slots most functions (placed_functions placed) right below;
      short = right_length functions (placed_functions placed) right;
      memory = memory;
    }

-- one more
pub right_more : (functions : List Lines) (placed : List PlacedLines) (f : Lines) (p : PlacedLines) → AreRight functions placed → IsRight f p
    → AreRight (functions ++ f ∷ []) (placed ++ p ∷ [])
right_more [] [] f p right next = (next, tt)
right_more [] (q ∷ qs) f p right next = absurd right
right_more (g ∷ gs) [] f p right next = absurd right
right_more (g ∷ gs) (q ∷ qs) f p right next = (right.0, right_more gs qs f p right.1 next)
