-- Where a machine of assembler code or of placed code is in its program: in a function, behind so many of its lines.
use Rattle.std.specs.Prelude.{◌≡◌, ◌==◌, ℕ, Bool, true, false, ◌&&◌, not, List, ◌∷◌, Some, is_none, drop, length, slice_get}
use Rattle.rv_isa.specs.declared.asm.Action.{Action}
use Rattle.rv_isa.specs.declared.asm.Action.TheVariants.{Compute, Label, Branch, Return}
use Rattle.rv_isa.specs.declared.asm.Operation.{Operation}
use Rattle.rv_isa.specs.declared.asm.Operation.TheVariants.{Mv, Lw, Sw, Dup, Free}
use Rattle.rv_isa.specs.AsmCode.{Line, Lines}
use Rattle.rv_isa.specs.Conventions.{home}
use Rattle.rv_isa.specs.AsmMachine.{AsmTurn}
use Rattle.rv_isa.specs.Frames.{Frame}
use Rattle.rv_isa.specs.PlacedCode.{PlacedLine, does, moves, PlacedLines}
use Rattle.rv_isa.specs.PlacedMachine.{PlacedTurn}
use Rattle.rv_isa.specs.Primitives.{go, ended, stuck}

-- a frame is in a function of a number, behind so many lines of its code
pub record IsBehindLines {C : Type 0} (f k : ℕ) (code : List C) (frame : Frame C) : Type 0 where
  pub function : frame.function ≡ f
  pub whole : frame.whole ≡ code
  pub left : frame.code ≡ drop k code

-- the running frame is
abbrev pub IsAtFrame : {C : Type 0} → ℕ → ℕ → List C → List (Frame C) → Type 0
IsAtFrame f k code frames = (frame : Frame _) × ((older : List (Frame _)) × ((frames ≡ frame ∷ older) × IsBehindLines f k code frame))

-- the machine is in the function f, and goes on with its k-th line, counted from 0; what its primitives share is a value
abbrev pub AsmIsAt : {H W : Type 0} → List Lines → ℕ → ℕ → H → AsmTurn H W → Type 0
AsmIsAt functions f k shared (go s) =
    (lines : Lines) × ((slice_get functions f ≡ Some lines) × (IsAtFrame f k lines.code s.frames × (s.shared ≡ shared)))
AsmIsAt functions f k shared (ended how last) = ⊥
AsmIsAt functions f k shared stuck = ⊥

abbrev pub PlacedIsAt : {H W : Type 0} → List PlacedLines → ℕ → ℕ → H → PlacedTurn H W → Type 0
PlacedIsAt functions f k shared (go s) =
    (lines : PlacedLines) × ((slice_get functions f ≡ Some lines) × (IsAtFrame f k lines.code s.frames × (s.shared ≡ shared)))
PlacedIsAt functions f k shared (ended how last) = ⊥
PlacedIsAt functions f k shared stuck = ⊥

-- a label is no instruction
abbrev pub is_no_label : Action → Bool
is_no_label (Label l) = false
is_no_label _ = true

-- a copy is none where the value stands already in the register that it goes to
abbrev pub is_copy : Action → Bool
is_copy (Compute Mv) = true
is_copy _ = false

-- Neither is a constant for the register that holds it always. The word of any other action has to be made.
abbrev pub is_made : Action → Bool
is_made action = not (is_copy action) && is_none (home action)

-- a load is none where its word is lost
abbrev pub is_load : Action → Bool
is_load (Compute (Lw offset)) = true
is_load _ = false

-- Each other action is an instruction at least, wherever its operands stand.
abbrev pub is_always_some : Action → Bool
is_always_some action = is_no_label action && (is_made action && not (is_load action))

-- a branch, but one that compares a single word with zero
abbrev pub is_test : Action → ℕ → Bool
is_test (Branch condition l) count = not (count == 1)
is_test _ count = false

-- an operation that does more than compute a value
abbrev pub has_effect : Operation → Bool
has_effect (Sw offset) = true
has_effect Dup = true
has_effect Free = true
has_effect _ = false

-- An own line, by its action and the number of its arguments: it does more than compute a value or give one back, since code that only
-- does so may stand where a call of it was; and it is no test, since no turn of a loop but the first comes to the test at its head, where
-- that stands again at the loop's end.
abbrev pub is_own : Action → ℕ → Bool
is_own (Compute operation) count = has_effect operation
is_own (Label l) count = false
is_own (Branch condition l) count = count == 1
is_own Return count = false
is_own _ count = true

abbrev pub is_own_line : PlacedLine → Bool
is_own_line (does alive action args into) = is_own action (length args)
is_own_line (moves alive value way) = false

abbrev pub is_instruction : PlacedLine → Bool
is_instruction (does alive action args into) = is_always_some action
is_instruction (moves alive value way) = true

-- the k-th line of the function f is there, and is such an action
abbrev pub AsmHasLine : List Lines → ℕ → ℕ → Type 0
AsmHasLine functions f k =
    (lines : Lines) × ((slice_get functions f ≡ Some lines)
    × ((line : Line) × ((slice_get lines.code k ≡ Some line) × (is_always_some line.action ≡ true))))

abbrev pub PlacedHasLine : List PlacedLines → ℕ → ℕ → Type 0
PlacedHasLine functions f k =
    (lines : PlacedLines) × ((slice_get functions f ≡ Some lines)
    × ((line : PlacedLine) × ((slice_get lines.code k ≡ Some line) × (is_instruction line ≡ true))))

-- or is an own line
abbrev pub AsmHasOwnLine : List Lines → ℕ → ℕ → Type 0
AsmHasOwnLine functions f k =
    (lines : Lines) × ((slice_get functions f ≡ Some lines)
    × ((line : Line) × ((slice_get lines.code k ≡ Some line) × (is_own line.action (length line.args) ≡ true))))

abbrev pub PlacedHasOwnLine : List PlacedLines → ℕ → ℕ → Type 0
PlacedHasOwnLine functions f k =
    (lines : PlacedLines) × ((slice_get functions f ≡ Some lines)
    × ((line : PlacedLine) × ((slice_get lines.code k ≡ Some line) × (is_own_line line ≡ true))))
