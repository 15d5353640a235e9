-- The machine of the placed form: what code over registers and slots does.
use Rattle.std.specs.Prelude.{ℕ, suc, List, [], ◌∷◌, Option, Some, None, Bool, false, cond, map, length, drop, nat_le, slice_get}
use Rattle.kk_base.specs.Machines.{Machine, weighing}
use Rattle.rv_isa.specs.declared.asm.Action.{Action}
use Rattle.rv_isa.specs.declared.asm.Action.TheVariants.{Compute, Label, Jump, Branch, Call, TailCall, Return, Routine, Hold, Unhold, Room}
use Rattle.rv_isa.specs.declared.placed.Place.{Place}
use Rattle.rv_isa.specs.declared.placed.Place.TheVariants.{Register as register, Slot as slot}
use Rattle.rv_isa.specs.declared.placed.Operand.{Operand}
use Rattle.rv_isa.specs.PlacedCode.{PlacedLine, does, moves, PlacedLines, from_of, to_of}
use Rattle.rv_isa.specs.Conventions.{argument, conforms, spoils, is_lost}
use Rattle.rv_isa.specs.Primitives.{Reply, answers, ends, fails, Primitives, Turn, go, ended, stuck, or_stuck, by_token, end_of}
use Rattle.rv_isa.specs.Frames.{Frame, empty, put, all_of, only_of, twice_of, result_of, received, found, top, taken_if, is_among, holding, unholding}
use Rattle.rv_isa.specs.AsmMachine.{is_label, unless_held}
use Rattle.rv_isa.specs.Costs.{instructions_of, move_instructions}

-- the frames, the running one first, the words of the registers that are known, and what is shared
pub record PlacedState (H : Type 0) : Type 0 where
  pub frames : List (Frame PlacedLine)
  pub registers : ℕ → Option ℕ
  pub shared : H

abbrev pub PlacedTurn : Type 0 → Type 0 → Type 0
PlacedTurn H W = Turn (PlacedState H) H W

abbrev pub is_label_line : ℕ → PlacedLine → Bool
is_label_line l (does alive action args into) = is_label l action
is_label_line l (moves alive value way) = false

-- the word at a place, by the words of the registers and of the slots
abbrev pub read_at : (ℕ → Option ℕ) → (ℕ → Option ℕ) → Place → Option ℕ
read_at registers slots (register r) = registers r.number
read_at registers slots (slot k) = slots k

abbrev pub registers_with : Place → Option ℕ → (ℕ → Option ℕ) → ℕ → Option ℕ
registers_with (register r) word registers = put r.number word registers
registers_with (slot k) word registers = registers

abbrev pub slots_with : Place → Option ℕ → (ℕ → Option ℕ) → ℕ → Option ℕ
slots_with (register r) word slots = slots
slots_with (slot k) word slots = put k word slots

-- the registers of an action that may spoil some
abbrev pub kept_by : Action → (ℕ → Option ℕ) → ℕ → Option ℕ
kept_by action registers x = cond (spoils action x) None (registers x)

-- the registers in which words are passed, from the n-th argument on
abbrev pub passed : ℕ → List ℕ → ℕ → Option ℕ
passed n [] = empty
passed n (word ∷ words) = put (argument n) (Some word) (passed (suc n) words)

-- the register that a result is awaited in
abbrev pub number_of : Place → Option ℕ
number_of (register r) = Some r.number
number_of (slot k) = None

abbrev pub awaited : Option Operand → Option ℕ
awaited None = None
awaited (Some into) = number_of into.place

abbrev pub slot_of : Place → Option ℕ
slot_of (register r) = None
slot_of (slot k) = Some k

abbrev pub only_slot : List Operand → Option ℕ
only_slot [] = None
only_slot (arg ∷ []) = slot_of arg.place
only_slot (arg ∷ other ∷ more) = None

abbrev pub first_slot : List Operand → Option ℕ
first_slot [] = None
first_slot (arg ∷ args) = slot_of arg.place

-- the frame of a function of a number as it begins
abbrev pub placed_entered : ℕ → PlacedLines → Frame PlacedLine
placed_entered g function =
    record { function = g; whole = function.code; code = function.code; cells = empty; held = []; into = None }

abbrev pub placed_goes : {H W : Type 0} → Frame PlacedLine → List (Frame PlacedLine) → (ℕ → Option ℕ) → H → PlacedTurn H W
placed_goes f fs registers shared = go (record { frames = f ∷ fs; registers = registers; shared = shared })

-- a word is written at a place
abbrev pub placed_writes : {H W : Type 0} → Place → Option ℕ → Frame PlacedLine → List (Frame PlacedLine) → (ℕ → Option ℕ) → H → PlacedTurn H W
placed_writes place word f fs registers shared =
    placed_goes (record f { cells = slots_with place word f.cells }) fs (registers_with place word registers) shared

-- where a word goes that an action gives, if it is not lost
abbrev pub unless_lost : Action → Option Operand → Option Operand
unless_lost action None = None
unless_lost action (Some into) = cond (is_lost action into.place) None (Some into)

abbrev pub placed_gives : {H W : Type 0} → Option Operand → ℕ → Frame PlacedLine → List (Frame PlacedLine) → (ℕ → Option ℕ) → H → PlacedTurn H W
placed_gives None word f fs registers shared = placed_goes f fs registers shared
placed_gives (Some into) word f fs registers shared = placed_writes into.place (Some word) f fs registers shared

abbrev pub placed_jumps : {H W : Type 0} → ℕ → Frame PlacedLine → List (Frame PlacedLine) → (ℕ → Option ℕ) → H → PlacedTurn H W
placed_jumps l f fs registers shared = or_stuck (found (is_label_line l) f.whole) (λ code. placed_goes (record f { code = code }) fs registers shared)

-- behind a call no register is known but the one that has its result
abbrev pub placed_returns : {H E W : Type 0} → Primitives H E W → List (Frame PlacedLine) → H → Option ℕ → PlacedTurn H W
placed_returns m [] shared result = ended m.finished shared
placed_returns m (f ∷ fs) shared result = or_stuck (received f.into result empty) (λ registers. placed_goes f fs registers shared)

abbrev pub placed_answered : {H W : Type 0} → Option Operand → ℕ → List (Frame PlacedLine) → (ℕ → Option ℕ) → H → PlacedTurn H W
placed_answered into word [] registers shared = stuck
placed_answered into word (f ∷ fs) registers shared = placed_gives into word f fs registers shared

abbrev pub placed_served : {H W : Type 0} → Option Operand → List (Frame PlacedLine) → (ℕ → Option ℕ) → Reply H W → PlacedTurn H W
placed_served into frames registers (answers word shared took_held) = or_stuck (taken_if took_held frames) (λ left. placed_answered into word left registers shared)
placed_served into frames registers (ends how shared) = ended how shared
placed_served into frames registers fails = stuck

-- What an action does with the words of its arguments. A call and a Room find the stack full where `depth` frames stand.
abbrev pub placed_acts : {H E W : Type 0} → Primitives H E W → ℕ → List PlacedLines → Frame PlacedLine → List (Frame PlacedLine) → (ℕ → Option ℕ) → H → Action → List Operand → Option Operand → List ℕ → PlacedTurn H W
placed_acts m depth q f fs registers shared (Compute operation) args into words =
    or_stuck (m.compute operation words shared) (λ r. placed_gives (unless_lost (Compute operation) into) r.0 f fs registers r.1)
placed_acts m depth q f fs registers shared (Label l) args into words = placed_goes f fs registers shared
placed_acts m depth q f fs registers shared (Jump l) args into words = placed_jumps l f fs registers shared
placed_acts m depth q f fs registers shared (Branch condition l) args into words =
    or_stuck (m.holds condition words) (λ taken. cond taken (placed_jumps l f fs registers shared) (placed_goes f fs registers shared))
placed_acts m depth q f fs registers shared (Call g) args into words =
    or_stuck (slice_get q g) (λ callee.
    cond (nat_le depth (length (f ∷ fs))) (ended m.stack_full shared) (placed_goes (placed_entered g callee) (record f { into = awaited into } ∷ fs) (passed 0 words) shared))
placed_acts m depth q f fs registers shared (TailCall g) args into words =
    unless_held f.held (or_stuck (slice_get q g) (λ callee. placed_goes (placed_entered g callee) fs (passed 0 words) shared))
placed_acts m depth q f fs registers shared Return args into words =
    unless_held f.held (or_stuck (result_of words) (λ result. placed_returns m fs shared result))
placed_acts m depth q f fs registers shared (Routine routine) args into words =
    placed_served into (f ∷ fs) (kept_by (Routine routine) registers) (m.serve routine words (top (f ∷ fs)) shared)
placed_acts m depth q f fs registers shared Hold args into words =
    or_stuck (first_slot args) (λ k. or_stuck (twice_of words) (λ word. or_stuck (holding k word f.held) (λ held.
    or_stuck (by_token m.hold word shared) (λ next. placed_goes (record f { held = held }) fs (kept_by Hold registers) next))))
placed_acts m depth q f fs registers shared Unhold args into words =
    or_stuck (only_slot args) (λ k. or_stuck (only_of words) (λ word. or_stuck (unholding k word f.held) (λ held.
    or_stuck (by_token m.unhold word shared) (λ next. placed_gives into word (record f { held = held }) fs (kept_by Unhold registers) next))))
placed_acts m depth q f fs registers shared Room args into words =
    cond (nat_le depth (length (f ∷ fs))) (ended m.stack_full shared) (placed_goes f fs registers shared)

-- whether a place is the slot of a held token
abbrev pub is_held : List ℕ → Place → Bool
is_held held (register r) = false
is_held held (slot k) = is_among k held

-- A statement whose operands do not stand where its action takes and gives them is none; nor is one that reads a place whose
-- word is not known. A move copies its place, known or not; one to the slot of a held token is none.
abbrev pub placed_line : {H E W : Type 0} → Primitives H E W → ℕ → List PlacedLines → Frame PlacedLine → List (Frame PlacedLine) → (ℕ → Option ℕ) → H → List PlacedLine → PlacedTurn H W
placed_line m depth q f fs registers shared [] = stuck
placed_line m depth q f fs registers shared (does alive action args into ∷ rest) =
    cond (conforms action args into)
    (or_stuck (all_of (map (λ arg. read_at registers f.cells arg.place) args)) (λ words. placed_acts m depth q (record f { code = rest }) fs registers shared action args into words))
    stuck
placed_line m depth q f fs registers shared (moves alive value way ∷ rest) =
    cond (is_held f.held (to_of way)) stuck (placed_writes (to_of way) (read_at registers f.cells (from_of way)) (record f { code = rest }) fs registers shared)

abbrev pub placed_running : {H E W : Type 0} → Primitives H E W → ℕ → List PlacedLines → List (Frame PlacedLine) → (ℕ → Option ℕ) → H → PlacedTurn H W
placed_running m depth q [] registers shared = stuck
placed_running m depth q (f ∷ fs) registers shared = placed_line m depth q f fs registers shared f.code

-- one step
abbrev pub placed_next : {H E W : Type 0} → Primitives H E W → ℕ → List PlacedLines → PlacedTurn H W → PlacedTurn H W
placed_next m depth q (go s) = placed_running m depth q s.frames s.registers s.shared
placed_next m depth q (ended how shared) = ended how shared
placed_next m depth q stuck = stuck

-- the events so far; where nothing more can be done they are not said
abbrev pub placed_told : {H E W : Type 0} → Primitives H E W → PlacedTurn H W → List E
placed_told m (go s) = m.told s.shared
placed_told m (ended how shared) = m.told shared
placed_told m stuck = []

-- what the next line weighs: the most instructions that it executes
abbrev pub placed_line_weight : {H E W : Type 0} → Primitives H E W → List (Frame PlacedLine) → (ℕ → Option ℕ) → H → Frame PlacedLine → List PlacedLine → ℕ
placed_line_weight m frames registers shared f [] = 0
placed_line_weight m frames registers shared f (does alive action args into ∷ rest) =
    instructions_of m action (all_of (map (λ arg. read_at registers f.cells arg.place) args)) (top frames) shared
placed_line_weight m frames registers shared f (moves alive value way ∷ rest) = move_instructions

abbrev pub placed_frames_weight : {H E W : Type 0} → Primitives H E W → List (Frame PlacedLine) → (ℕ → Option ℕ) → H → ℕ
placed_frames_weight m [] registers shared = 0
placed_frames_weight m (f ∷ fs) registers shared = placed_line_weight m (f ∷ fs) registers shared f f.code

abbrev pub placed_weight : {H E W : Type 0} → Primitives H E W → PlacedTurn H W → ℕ
placed_weight m (go s) = placed_frames_weight m s.frames s.registers s.shared
placed_weight m (ended how shared) = 0
placed_weight m stuck = 0

-- the machine of a text at a depth
abbrev pub placed_machine : {H E W : Type 0} → Primitives H E W → ℕ → List PlacedLines → Machine (PlacedTurn H W) E W
placed_machine m depth q =
    weighing (placed_weight m) end_of (λ t. (drop (length (placed_told m t)) (placed_told m (placed_next m depth q t)), placed_next m depth q t))

-- the start of the first function, which has no parameters
abbrev pub placed_start : {H W : Type 0} → PlacedLines → H → PlacedTurn H W
placed_start main shared = placed_goes (placed_entered 0 main) [] empty shared
