-- The machine of the assembler form: what a program over values does.
use Rattle.std.specs.Prelude.{◌==◌, ℕ, ◌+◌, ◌*◌, List, [], ◌∷◌, Option, Some, None, Bool, false, cond, option_map, map, length, drop, nat_le, slice_get}
use Rattle.kk_base.specs.Machines.{Machine, weighing}
use Rattle.rv_isa.specs.declared.asm.Action.{Action}
use Rattle.rv_isa.specs.declared.asm.Action.TheVariants.{Compute, Label, Jump, Branch, Call, TailCall, Return, Routine, Hold, Unhold, Room}
use Rattle.rv_isa.specs.AsmCode.{Line, Lines}
use Rattle.rv_isa.specs.Primitives.{Reply, answers, ends, fails, Primitives, Turn, go, ended, stuck, or_stuck, by_token, end_of}
use Rattle.rv_isa.specs.Frames.{Frame, empty, put, put_into, all_of, only_of, twice_of, result_of, received, found, top, taken_if, holding, unholding}
use Rattle.rv_isa.specs.Costs.{instructions_of, move_instructions, line_moves, spare_moves}

-- the frames, the running one first, and what is shared
pub record AsmState (H : Type 0) : Type 0 where
  pub frames : List (Frame Line)
  pub shared : H

abbrev pub AsmTurn : Type 0 → Type 0 → Type 0
AsmTurn H W = Turn (AsmState H) H W

abbrev pub is_label : ℕ → Action → Bool
is_label l (Label m) = m == l
is_label l _ = false

-- the values of a function as it begins: its parameters are the words that were passed, which are as many
abbrev pub bound : List ℕ → List ℕ → Option (ℕ → Option ℕ)
bound [] [] = Some empty
bound [] (word ∷ words) = None
bound (param ∷ params) [] = None
bound (param ∷ params) (word ∷ words) = option_map (put param (Some word)) (bound params words)

-- the frame of a function of a number as it begins
abbrev pub asm_entered : ℕ → Lines → (ℕ → Option ℕ) → Frame Line
asm_entered g function cells =
    record { function = g; whole = function.code; code = function.code; cells = cells; held = []; into = None }

-- what follows in the running frame, whose code is already past the line
abbrev pub asm_goes : {H W : Type 0} → Frame Line → List (Frame Line) → H → AsmTurn H W
asm_goes f fs shared = go (record { frames = f ∷ fs; shared = shared })

abbrev pub asm_jumps : {H W : Type 0} → ℕ → Frame Line → List (Frame Line) → H → AsmTurn H W
asm_jumps l f fs shared = or_stuck (found (λ line. is_label l line.action) f.whole) (λ code. asm_goes (record f { code = code }) fs shared)

abbrev pub asm_returns : {H E W : Type 0} → Primitives H E W → List (Frame Line) → H → Option ℕ → AsmTurn H W
asm_returns m [] shared result = ended m.finished shared
asm_returns m (f ∷ fs) shared result = or_stuck (received f.into result f.cells) (λ cells. asm_goes (record f { cells = cells }) fs shared)

abbrev pub asm_gives : {H W : Type 0} → Option ℕ → ℕ → List (Frame Line) → H → AsmTurn H W
asm_gives into word [] shared = stuck
asm_gives into word (f ∷ fs) shared = asm_goes (record f { cells = put_into into word f.cells }) fs shared

abbrev pub asm_served : {H W : Type 0} → Option ℕ → List (Frame Line) → Reply H W → AsmTurn H W
asm_served into frames (answers word shared took_held) = or_stuck (taken_if took_held frames) (λ left. asm_gives into word left shared)
asm_served into frames (ends how shared) = ended how shared
asm_served into frames fails = stuck

-- a frame with held tokens of its own may not be left
abbrev pub unless_held : {S H W : Type 0} → List ℕ → Turn S H W → Turn S H W
unless_held [] next = next
unless_held (cell ∷ held) next = stuck

-- What an action does with the words of its arguments. A call and a Room find the stack full where `depth` frames stand.
abbrev pub asm_acts : {H E W : Type 0} → Primitives H E W → ℕ → List Lines → Frame Line → List (Frame Line) → H → Action → List ℕ → Option ℕ → List ℕ → AsmTurn H W
asm_acts m depth q f fs shared (Compute operation) args into words =
    or_stuck (m.compute operation words shared) (λ r. asm_goes (record f { cells = put_into into r.0 f.cells }) fs r.1)
asm_acts m depth q f fs shared (Label l) args into words = asm_goes f fs shared
asm_acts m depth q f fs shared (Jump l) args into words = asm_jumps l f fs shared
asm_acts m depth q f fs shared (Branch condition l) args into words =
    or_stuck (m.holds condition words) (λ taken. cond taken (asm_jumps l f fs shared) (asm_goes f fs shared))
asm_acts m depth q f fs shared (Call g) args into words =
    or_stuck (slice_get q g) (λ callee. or_stuck (bound callee.params words) (λ cells.
    cond (nat_le depth (length (f ∷ fs))) (ended m.stack_full shared) (asm_goes (asm_entered g callee cells) (record f { into = into } ∷ fs) shared)))
asm_acts m depth q f fs shared (TailCall g) args into words =
    unless_held f.held (or_stuck (slice_get q g) (λ callee. or_stuck (bound callee.params words) (λ cells. asm_goes (asm_entered g callee cells) fs shared)))
asm_acts m depth q f fs shared Return args into words =
    unless_held f.held (or_stuck (result_of words) (λ result. asm_returns m fs shared result))
asm_acts m depth q f fs shared (Routine routine) args into words =
    asm_served into (f ∷ fs) (m.serve routine words (top (f ∷ fs)) shared)
asm_acts m depth q f fs shared Hold args into words =
    or_stuck (twice_of args) (λ value. or_stuck (twice_of words) (λ word. or_stuck (holding value word f.held) (λ held.
    or_stuck (by_token m.hold word shared) (λ next. asm_goes (record f { held = held }) fs next))))
asm_acts m depth q f fs shared Unhold args into words =
    or_stuck (only_of args) (λ value. or_stuck (only_of words) (λ word. or_stuck (unholding value word f.held) (λ held.
    or_stuck (by_token m.unhold word shared) (λ next. asm_goes (record f { cells = put_into into word f.cells; held = held }) fs next))))
asm_acts m depth q f fs shared Room args into words =
    cond (nat_le depth (length (f ∷ fs))) (ended m.stack_full shared) (asm_goes f fs shared)

-- The words of the arguments are read first: a value that was not written cannot be read.
abbrev pub asm_line : {H E W : Type 0} → Primitives H E W → ℕ → List Lines → Frame Line → List (Frame Line) → H → List Line → AsmTurn H W
asm_line m depth q f fs shared [] = stuck
asm_line m depth q f fs shared (line ∷ rest) =
    or_stuck (all_of (map f.cells line.args)) (λ words. asm_acts m depth q (record f { code = rest }) fs shared line.action line.args line.into words)

abbrev pub asm_running : {H E W : Type 0} → Primitives H E W → ℕ → List Lines → List (Frame Line) → H → AsmTurn H W
asm_running m depth q [] shared = stuck
asm_running m depth q (f ∷ fs) shared = asm_line m depth q f fs shared f.code

-- one step
abbrev pub asm_next : {H E W : Type 0} → Primitives H E W → ℕ → List Lines → AsmTurn H W → AsmTurn H W
asm_next m depth q (go s) = asm_running m depth q s.frames s.shared
asm_next m depth q (ended how shared) = ended how shared
asm_next m depth q stuck = stuck

-- the events so far; where nothing more can be done they are not said
abbrev pub asm_told : {H E W : Type 0} → Primitives H E W → AsmTurn H W → List E
asm_told m (go s) = m.told s.shared
asm_told m (ended how shared) = m.told shared
asm_told m stuck = []

-- what the next line weighs: the most instructions that it executes, the moves for its arguments and its result, and its spare ones
abbrev pub asm_line_weight : {H E W : Type 0} → Primitives H E W → List (Frame Line) → H → Frame Line → List Line → ℕ
asm_line_weight m frames shared f [] = 0
asm_line_weight m frames shared f (line ∷ rest) =
    (line_moves line + spare_moves line.action) * move_instructions
    + instructions_of m line.action (all_of (map f.cells line.args)) (top frames) shared

abbrev pub asm_frames_weight : {H E W : Type 0} → Primitives H E W → List (Frame Line) → H → ℕ
asm_frames_weight m [] shared = 0
asm_frames_weight m (f ∷ fs) shared = asm_line_weight m (f ∷ fs) shared f f.code

abbrev pub asm_weight : {H E W : Type 0} → Primitives H E W → AsmTurn H W → ℕ
asm_weight m (go s) = asm_frames_weight m s.frames s.shared
asm_weight m (ended how shared) = 0
asm_weight m stuck = 0

-- the machine of a program at a depth
abbrev pub asm_machine : {H E W : Type 0} → Primitives H E W → ℕ → List Lines → Machine (AsmTurn H W) E W
asm_machine m depth q =
    weighing (asm_weight m) end_of (λ t. (drop (length (asm_told m t)) (asm_told m (asm_next m depth q t)), asm_next m depth q t))

-- the start of the first function, which has no parameters
abbrev pub asm_start : {H W : Type 0} → Lines → H → AsmTurn H W
asm_start main shared = asm_goes (asm_entered 0 main empty) [] shared
