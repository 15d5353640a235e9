-- That memory has the held tokens of the frames of a machine, each in a slot of the memory of its frame.
use Rattle.std.specs.Prelude.{◌≡◌, ℕ, ◌+◌, ◌*◌, ◌≤◌, List, [], ◌∷◌, length, Option, Some}
use Rattle.rv_isa.specs.Frames.{Frame}
use Rattle.rv_isa.specs.PlacedMachine.{PlacedState}
use Rattle.rv_isa.specs.Processor.{Processor}
use Rattle.cell_heap.specs.Pool.{Pool}
use Rattle.cell_heap.specs.ProgramMemory.{HoldsCells}
use Rattle.cell_heap.specs.View.{Link}
use Rattle.cell_runtime.specs.World.{World}
use Rattle.rv_place.specs.Grounds.{stack_end}
use Rattle.rv_place.specs.Lines.{Map}

-- A word at an address is one of the frame of a number. Frames have so many bytes, and stand one below the other: that of number 0
-- ends where the stack ends.
pub record IsInFrame (size end number at : ℕ) : Type 0 where
  pub behind : end ≤ at + (size * number + size)
  pub within : at + 4 + size * number ≤ end

-- The first links are the held tokens of a frame, the newest first: each by the word of its value, in a word of the frame. Of those
-- behind them something else is true.
abbrev pub HoldsFirst : ℕ → ℕ → ℕ → (ℕ → Option ℕ) → List ℕ → (List Link → Type 0) → List Link → Type 0
HoldsFirst size end number cells [] Behind links = Behind links
HoldsFirst size end number cells (k ∷ ks) Behind [] = ⊥
HoldsFirst size end number cells (k ∷ ks) Behind (link ∷ links) =
    (cells k ≡ Some link.cell) × (IsInFrame size end number link.slot × HoldsFirst size end number cells ks Behind links)

-- the links are the held tokens of all frames, the newest frame first
abbrev pub AreHeld : {C : Type 0} → ℕ → ℕ → List (Frame C) → List Link → Type 0
AreHeld size end [] links = links ≡ []
AreHeld size end (frame ∷ frames) links =
    HoldsFirst size end (length frames) frame.cells frame.held (AreHeld size end frames) links

-- memory has the cells of a state, and on its chain the held tokens of its frames
abbrev pub HasHeldTokens : Map → Pool → ℕ → PlacedState World → Processor → Type 0
HasHeldTokens map pool depth t s =
    (links : List Link) × (HoldsCells pool t.shared.cells links s × AreHeld map.frame (stack_end map depth) t.frames links)
