-- When a state of the machine of rotated code stands for one of the machine of the code.
use Rattle.std.specs.Prelude.{⊤, ◌≡◌, ◌≢◌, ◌≤◌, ◌⊎◌, ℕ, List, [], ◌∷◌, ◌++◌, Option, Some, slice_get}
use Rattle.kk_base.specs.Machines.{state}
use Rattle.rv_isa.specs.Frames.{Frame}
use Rattle.rv_isa.specs.PlacedCode.{PlacedLine, PlacedLines}
use Rattle.rv_isa.specs.PlacedMachine.{PlacedTurn, placed_machine}
use Rattle.rv_isa.specs.Primitives.{Primitives, go, ended, stuck}
use Rattle.rv_loops.specs.Rotation.{Loop, AreStraight, test, mark, goes_on, leaves, rotated_lines, IsRotated}

-- what is known by the one is known by the other
abbrev pub Knows : (ℕ → Option ℕ) → (ℕ → Option ℕ) → Type 0
Knows less more = (x word : ℕ) → less x ≡ Some word → more x ≡ Some word

-- they have the same at each of these
abbrev pub SameAt : List ℕ → (ℕ → Option ℕ) → (ℕ → Option ℕ) → Type 0
SameAt [] some other = Unit {0}
SameAt (k ∷ ks) some other = (some k ≡ other k) × SameAt ks some other

-- Two frames, but for the code that is left and for where a result goes. They run a function of q and
-- one of q'; the second knows at least as much, and has the same held tokens.
pub record IsLike (q q' : List PlacedLines) (f g : Frame PlacedLine) : Type 0 where
  pub there : (c : PlacedLines) × ((slice_get q f.function ≡ Some c) × (c.code ≡ f.whole))
  pub there' : (c : PlacedLines) × ((slice_get q' g.function ≡ Some c) × (c.code ≡ g.whole))
  pub function : g.function ≡ f.function
  pub cells : Knows f.cells g.cells
  pub held : g.held ≡ f.held
  pub held_cells : SameAt f.held g.cells f.cells

-- ---- where they are in the code

-- how the code that is left of a function of a number stands to what is left of the rotated code, by the whole of both
abbrev pub Spot : Type 1
Spot = ℕ → List PlacedLine → List PlacedLine → List PlacedLine → List PlacedLine → Type 0

-- before the test, where other lines than those from the test on follow in the rotated code
pub record IsBeforeTest (loop : Loop) (after code new : List PlacedLine) : Type 0 where
  pub before : List PlacedLine
  pub straight : AreStraight before
  pub code_is : code ≡ before ++ (test loop ∷ loop.behind)
  pub new_is : new ≡ before ++ after

-- at the same line: of code that is not rotated; behind the test, where the label may come first; or before it
abbrev pub IsAtSame : Spot
IsAtSame f whole rotated code new =
    ((rotated ≡ whole) × (new ≡ code))
    ⊎ ((is : IsRotated f whole rotated) × ((new ≡ rotated_lines is.loop code)
    ⊎ ((new ≡ mark is.loop ∷ rotated_lines is.loop code)
    ⊎ IsBeforeTest is.loop (test is.loop ∷ mark is.loop ∷ rotated_lines is.loop is.loop.behind) code new)))

-- at the head of the loop, and where the function called itself
abbrev pub IsInTurn : Spot
IsInTurn f whole rotated code new =
    (is : IsRotated f whole rotated) × ((rest : List PlacedLine)
    × IsBeforeTest is.loop (goes_on is.loop ∷ leaves is.loop ∷ rest) code new)

-- ---- states

-- the frames that wait
abbrev pub AllWait : List PlacedLines → List PlacedLines → List (Frame PlacedLine) → List (Frame PlacedLine) → Type 0
AllWait q q' [] [] = Unit {0}
AllWait q q' [] (g ∷ gs) = ⊥
AllWait q q' (f ∷ fs) [] = ⊥
AllWait q q' (f ∷ fs) (g ∷ gs) = IsLike q q' f g × (IsAtSame f.function f.whole g.whole f.code g.code × ((g.into ≡ f.into)
    × AllWait q q' fs gs))

-- and all, by where the running ones are
abbrev pub FramesStand : List PlacedLines → List PlacedLines → Spot → List (Frame PlacedLine) → List (Frame PlacedLine) → Type 0
FramesStand q q' IsAt [] [] = Unit {0}
FramesStand q q' IsAt [] (g ∷ gs) = ⊥
FramesStand q q' IsAt (f ∷ fs) [] = ⊥
FramesStand q q' IsAt (f ∷ fs) (g ∷ gs) = IsLike q q' f g × (IsAt f.function f.whole g.whole f.code g.code × AllWait q q' fs gs)

-- For a state that can do nothing more, any stands.
abbrev pub StandsFor : {H W : Type 0} → List PlacedLines → List PlacedLines → Spot → PlacedTurn H W → PlacedTurn H W → Type 0
StandsFor q q' IsAt (go s) (go t) = FramesStand q q' IsAt s.frames t.frames × (Knows s.registers t.registers
    × (t.shared ≡ s.shared))
StandsFor q q' IsAt (go s) (ended how shared) = ⊥
StandsFor q q' IsAt (go s) stuck = ⊥
StandsFor q q' IsAt (ended how shared) (go t) = ⊥
StandsFor q q' IsAt (ended how shared) (ended how' shared') = (how' ≡ how) × (shared' ≡ shared)
StandsFor q q' IsAt (ended how shared) stuck = ⊥
StandsFor q q' IsAt stuck t = ⊤

-- no run comes to a state that can do nothing more
abbrev pub NeverStuck : {H E W : Type 0} → Primitives H E W → ℕ → List PlacedLines → PlacedTurn H W → Type 0
NeverStuck m depth q s = (n : ℕ) → state (placed_machine m depth q) n s ≢ stuck

-- What the simulation keeps. The tail call at which a turn begins goes by without a step, and its weight is saved for the jump
-- behind the test.
abbrev pub Related : {H E W : Type 0} → Primitives H E W → ℕ → List PlacedLines → List PlacedLines → ℕ → ℕ → PlacedTurn H W
    → PlacedTurn H W → Type 0
Related m depth q q' credit idle s t =
    NeverStuck m depth q s × (((1 ≤ idle) × StandsFor q q' IsAtSame s t) ⊎ ((2 ≤ credit) × StandsFor q q' IsInTurn s t))

abbrev pub IsNotStuck : {H W : Type 0} → PlacedTurn H W → Type 0
IsNotStuck t = t ≢ stuck
