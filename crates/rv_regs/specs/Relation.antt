-- When a state of the placed form's machine stands for one of the assembler form's.
use Rattle.std.specs.Prelude.{◌≡◌, ◌≢◌, ◌⊎◌, ◌≤◌, ◌+◌, ◌-◌, ◌*◌, ℕ, suc, max, List, [], ◌∷◌, Option, Some, None, true, false, ⊤, length}
use Rattle.std.specs.List.{AllByRecursion}
use Rattle.kk_base.specs.Machines.{Machine, state}
use Rattle.rv_isa.specs.declared.asm.Action.{Action}
use Rattle.rv_isa.specs.declared.asm.Action.TheVariants.{Compute, Routine, Unhold}
use Rattle.rv_isa.specs.declared.routine.Routine.TheVariants.{Drop}
use Rattle.rv_isa.specs.declared.placed.Place.{Place}
use Rattle.rv_isa.specs.declared.placed.Place.TheVariants.{Slot as slot}
use Rattle.rv_isa.specs.declared.placed.Operand.{Operand}
use Rattle.rv_isa.specs.declared.placed.Listed.{Listed}
use Rattle.rv_isa.specs.AsmCode.{Line, Lines}
use Rattle.rv_isa.specs.PlacedCode.{PlacedLine, does, moves, PlacedLines}
use Rattle.rv_isa.specs.Primitives.{Primitives, go, ended, stuck}
use Rattle.rv_isa.specs.Frames.{Frame, is_among}
use Rattle.rv_isa.specs.AsmMachine.{AsmTurn, asm_machine}
use Rattle.rv_isa.specs.Costs.{move_instructions, result_moves}
use Rattle.rv_isa.specs.PlacedMachine.{PlacedTurn, read_at, number_of}
use Rattle.rv_regs.specs.Listings.{first_alive, listed_as}
use Rattle.rv_regs.specs.Conditions.{AtBoth, Apart, without_moves, AllFit}
use Rattle.rv_regs.specs.Heavier.{heavier}

-- each listed value stands at its place, and in the register of its copy
abbrev pub Holds : List Listed → (ℕ → Option ℕ) → (ℕ → Option ℕ) → (ℕ → Option ℕ) → Type 0
Holds alive values registers slots = (v : ℕ) (l : Listed) → listed_as v alive ≡ Some l → AtBoth (λ place. values v ≡ read_at registers slots place) l

-- each value on the chain is listed as held, in the slot that is on the chain in its place; none is there twice
abbrev pub HeldAs : List Listed → List ℕ → List ℕ → Type 0
HeldAs alive [] [] = ⊤
HeldAs alive [] (k ∷ ks) = ⊥
HeldAs alive (v ∷ vs) [] = ⊥
HeldAs alive (v ∷ vs) (k ∷ ks) = (listed_as v alive ≡ Some (record { value = v; place = slot k; held = true; copy = None })) × ((is_among v vs ≡ false) × HeldAs alive vs ks)

-- the function is the same; the code that is left, and its function's, are the same but for the moves, and fit
pub record SameCode (f : Frame Line) (g : Frame PlacedLine) : Type 0 where
  pub function : g.function ≡ f.function
  pub code : without_moves g.code ≡ f.code
  pub whole : without_moves g.whole ≡ f.whole
  pub code_fits : AllFit g.whole g.code
  pub whole_fits : AllFit g.whole g.whole

-- a running frame stands for one, by what is listed as alive
pub record Stands (alive : List Listed) (registers : ℕ → Option ℕ) (f : Frame Line) (g : Frame PlacedLine) : Type 0 where
  pub same : SameCode f g
  pub apart : Apart alive
  pub holds : Holds alive f.cells registers g.cells
  pub held : HeldAs alive f.held g.held

-- a value that is listed in a frame that waits stands in a slot
abbrev pub IsSlotOf : (ℕ → Option ℕ) → (ℕ → Option ℕ) → ℕ → Place → Type 0
IsSlotOf values slots v place = (k : ℕ) × (place ≡ slot k) × (values v ≡ slots k)

-- What is listed in a frame that waits is the value that it waits for, where that is awaited, or stands in a slot. It has no copy.
abbrev pub WaitsFor : List Listed → Option ℕ → Option ℕ → (ℕ → Option ℕ) → (ℕ → Option ℕ) → Type 0
WaitsFor alive None None values slots = (v : ℕ) (l : Listed) → listed_as v alive ≡ Some l → (l.copy ≡ None) × IsSlotOf values slots v l.place
WaitsFor alive None (Some x) values slots = ⊥
WaitsFor alive (Some u) None values slots = ⊥
WaitsFor alive (Some u) (Some x) values slots =
    (v : ℕ) (l : Listed) → listed_as v alive ≡ Some l → (l.copy ≡ None) × (((v ≡ u) × (number_of l.place ≡ Some x)) ⊎ ((v ≢ u) × IsSlotOf values slots v l.place))

pub record Waits (f : Frame Line) (g : Frame PlacedLine) : Type 0 where
  pub same : SameCode f g
  pub awaits : WaitsFor (first_alive g.code) f.into g.into f.cells g.cells
  pub held : HeldAs (first_alive g.code) f.held g.held

abbrev pub AllWait : List (Frame Line) → List (Frame PlacedLine) → Type 0
AllWait [] [] = ⊤
AllWait [] (g ∷ gs) = ⊥
AllWait (f ∷ fs) [] = ⊥
AllWait (f ∷ fs) (g ∷ gs) = Waits f g × AllWait fs gs

abbrev pub FramesStand : (ℕ → Option ℕ) → List (Frame Line) → List (Frame PlacedLine) → Type 0
FramesStand registers [] gs = ⊥
FramesStand registers (f ∷ fs) [] = ⊥
FramesStand registers (f ∷ fs) (g ∷ gs) = Stands (first_alive g.code) registers f g × AllWait fs gs

-- One stands for the other. For a state that can do nothing more, any does.
abbrev pub StandsFor : {H W : Type 0} → AsmTurn H W → PlacedTurn H W → Type 0
StandsFor (go s) (go t) = FramesStand t.registers s.frames t.frames × (s.shared ≡ t.shared)
StandsFor (go s) (ended how shared) = ⊥
StandsFor (go s) stuck = ⊥
StandsFor (ended how shared) (go t) = ⊥
StandsFor (ended how shared) (ended how' shared') = (how ≡ how') × (shared ≡ shared')
StandsFor (ended how shared) stuck = ⊥
StandsFor stuck t = ⊤

-- no run comes to a state that can do nothing more
abbrev pub NeverStuck : {H E W : Type 0} → Primitives H E W → ℕ → List Lines → AsmTurn H W → Type 0
NeverStuck m depth q s = (n : ℕ) → state (asm_machine m depth q) n s ≢ stuck

-- ---- moves

-- the moves with which code begins
abbrev pub leading : List PlacedLine → ℕ
leading [] = 0
leading (does alive action args into ∷ code) = 0
leading (moves alive value way ∷ code) = suc (leading code)

-- the moves for so many arguments: a token that is taken back is in its slot; of a drop one move more, with which a value leaves the
-- register that it takes its reference in
abbrev pub argument_loads : Action → ℕ → ℕ
argument_loads Unhold count = 0
argument_loads (Routine Drop) count = suc count
argument_loads action count = count

-- the moves that may stand before the first statement of code, for its arguments: loads, of a Hold a store and a load, and of a drop
-- a load and a copy
abbrev pub first_args : List PlacedLine → ℕ
first_args [] = 0
first_args (does alive action args into ∷ code) = argument_loads action (length args)
first_args (moves alive value way ∷ code) = first_args code

-- the stores behind a statement: of its result, and of what a computation has read
abbrev pub stores_behind : Action → List Operand → Option Operand → ℕ
stores_behind (Compute operation) args into = length args + result_moves into
stores_behind action args into = result_moves into

-- Between two statements stand at most `extra` moves more than the stores behind the first and the moves for the arguments of the second.
abbrev pub MovesWithin : ℕ → List PlacedLine → Type 0
MovesWithin extra [] = ⊤
MovesWithin extra (does alive action args into ∷ code) =
    (leading code ≤ stores_behind action args into + (first_args code + extra)) × MovesWithin extra code
MovesWithin extra (moves alive value way ∷ code) = MovesWithin extra code

-- and before the first one no more than the stores of the parameters, and its loads, and as many
abbrev pub FunctionMovesWithin : ℕ → PlacedLines → Type 0
FunctionMovesWithin extra function =
    (leading function.code ≤ length function.params + (first_args function.code + extra)) × MovesWithin extra function.code

abbrev pub AllMovesWithin : ℕ → List PlacedLines → Type 0
AllMovesWithin extra functions = AllByRecursion (FunctionMovesWithin extra) functions

-- no more than that
abbrev pub FewMoves : List PlacedLine → Type 0
FewMoves code = MovesWithin 0 code

abbrev pub FunctionFewMoves : PlacedLines → Type 0
FunctionFewMoves function = FunctionMovesWithin 0 function

abbrev pub AllFewMoves : List PlacedLines → Type 0
AllFewMoves functions = AllMovesWithin 0 functions

-- The most moves that stand before one statement beyond these: 0 where code has few moves.
abbrev pub extra_in : List PlacedLine → ℕ
extra_in [] = 0
extra_in (does alive action args into ∷ code) =
    max (leading code - (stores_behind action args into + first_args code)) (extra_in code)
extra_in (moves alive value way ∷ code) = extra_in code

abbrev pub function_extra : PlacedLines → ℕ
function_extra function = max (leading function.code - (length function.params + first_args function.code)) (extra_in function.code)

abbrev pub most_extra : List PlacedLines → ℕ
most_extra [] = 0
most_extra (function ∷ functions) = max (function_extra function) (most_extra functions)

abbrev pub FramesMovesWithin : ℕ → List (Frame PlacedLine) → Type 0
FramesMovesWithin extra frames =
    AllByRecursion (λ (frame : Frame PlacedLine). MovesWithin extra frame.code × MovesWithin extra frame.whole) frames

-- The moves at the front of each frame's code that its first statement does not pay for, by its loads and the extra ones: earlier
-- statements have paid for them.
abbrev pub stores_before : ℕ → List (Frame PlacedLine) → ℕ
stores_before extra [] = 0
stores_before extra (frame ∷ frames) = (leading frame.code - (first_args frame.code + extra)) + stores_before extra frames

-- a state with no more moves, and those that were paid for are within the weight that is saved
abbrev pub HasMovesWithin : {H W : Type 0} → ℕ → ℕ → PlacedTurn H W → Type 0
HasMovesWithin extra credit (go t) = FramesMovesWithin extra t.frames × (stores_before extra t.frames * move_instructions ≤ credit)
HasMovesWithin extra credit (ended how shared) = ⊤
HasMovesWithin extra credit stuck = ⊤

-- ---- the simulation

-- The assembler form's machine, of which each step weighs so many moves more: the extra ones before the statement.
abbrev pub asm_machine_with : {H E W : Type 0} → ℕ → Primitives H E W → ℕ → List Lines → Machine (AsmTurn H W) E W
asm_machine_with extra m depth asm = heavier (extra * move_instructions) (asm_machine m depth asm)

-- what the simulation keeps; the weight that it saves is for the stores to come
abbrev pub Related : {H E W : Type 0} → ℕ → Primitives H E W → ℕ → List Lines → ℕ → ℕ → AsmTurn H W → PlacedTurn H W → Type 0
Related extra m depth asm credit idle s t = NeverStuck m depth asm s × (StandsFor s t × HasMovesWithin extra credit t)

-- the placed form's machine passes no state in which it can do nothing
abbrev pub IsNotStuck : {H W : Type 0} → PlacedTurn H W → Type 0
IsNotStuck t = t ≢ stuck
