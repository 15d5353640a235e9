-- When a processor stands for a state of the machine of the placed form: where it is in the code, its registers and the frames
-- of its stack.
use Rattle.std.specs.Prelude.{◌≡◌, ◌≢◌, ℕ, ◌+◌, ◌*◌, ◌%◌, ◌^◌, ◌≤◌, ◌<◌, max, List, [], ◌∷◌, length, Option, Some, None, Bool}
use Rattle.std.specs.Prelude.{true, false, cond, All, IsSome, slice_get}
use Rattle.kk_base.specs.Memory.{Part}
use Rattle.kk_base.specs.Machines.{state}
use Rattle.rv_isa.specs.declared.asm.Action.{Action}
use Rattle.rv_isa.specs.declared.asm.Action.TheVariants.{Branch}
use Rattle.rv_isa.specs.declared.placed.Place.{Place}
use Rattle.rv_isa.specs.declared.placed.Place.TheVariants.{Register as register, Slot as slot}
use Rattle.rv_isa.specs.declared.placed.Operand.{Operand}
use Rattle.rv_isa.specs.PlacedCode.{PlacedLine, does, moves, PlacedLines, to_of}
use Rattle.rv_isa.specs.Conventions.{is_handed_out, one_register, header_register, list_header, is_of_constant, may_write}
use Rattle.rv_isa.specs.Primitives.{go, ended, stuck}
use Rattle.rv_isa.specs.Frames.{Frame, found}
use Rattle.rv_isa.specs.PlacedMachine.{PlacedState, PlacedTurn, is_label_line, placed_machine}
use Rattle.rv_isa.specs.Bytes.{number_at}
use Rattle.rv_isa.specs.Processor.{Processor, Ending, Progress, goes, value}
use Rattle.rv_isa.specs.FreeTouches.{TouchesNoFreeCell}
use Rattle.rv_isa.specs.ProcessorMachine as OfProcessor
use Rattle.rv_isa.specs.Standing.{Code}
use Rattle.cell_heap.specs.Pool.{Pool}
use Rattle.cell_heap.specs.View.{Link}
use Rattle.cell_heap.specs.Blocks.{Cells}
use Rattle.cell_heap.specs.ProgramMemory.{HoldsCells}
use Rattle.cell_runtime.specs.Sizes.{runtime_words}
use Rattle.cell_runtime.specs.World.{World, primitives}
use Rattle.rv_place.specs.Addresses.{words_of_lines, forms_of, entry_words, takes_frame, frame_bias, slot_offset, way_offset}
use Rattle.rv_place.specs.Lines.{Map, LinesAt}
use Rattle.rv_place.specs.Registers.{ra}
use Rattle.rv_place.specs.Grounds.{stack_end, Rests}
use Rattle.rv_place.specs.declared.reach.Forms.{Forms}

-- ---- what code is asked for

-- a register that is written is one that values may have, and one that holds a word always is written by that word alone
abbrev pub IsHandedOut : Place → Type 0
IsHandedOut (register r) = is_handed_out r.number ≡ true
IsHandedOut (slot k) = Unit {0}

abbrev pub GivesHandedOut : Action → Option Operand → Type 0
GivesHandedOut action None = Unit {0}
GivesHandedOut action (Some into) = IsHandedOut into.place × (may_write action into.place ≡ true)

-- a branch is to a label of its function
abbrev pub HasLabel : List PlacedLine → Action → Type 0
HasLabel whole (Branch condition l) = IsSome (found (is_label_line l) whole)
HasLabel whole _ = Unit {0}

-- a line of a function, `whole`: it writes only what is handed out, and has its label
abbrev pub IsPlain : List PlacedLine → PlacedLine → Type 0
IsPlain whole (does alive action args into) = GivesHandedOut action into × HasLabel whole action
IsPlain whole (moves alive value way) = IsHandedOut (to_of way) × (is_of_constant (to_of way) ≡ false)

abbrev pub ArePlain : List PlacedLine → List PlacedLine → Type 0
ArePlain whole [] = Unit {0}
ArePlain whole (line ∷ lines) = IsPlain whole line × ArePlain whole lines

abbrev pub AllPlain : List PlacedLines → Type 0
AllPlain [] = Unit {0}
AllPlain (function ∷ functions) = ArePlain function.code function.code × AllPlain functions

-- the most lines of a function
abbrev pub most_lines : List PlacedLines → ℕ
most_lines [] = 0
most_lines (function ∷ functions) = max (length function.code) (most_lines functions)

-- ---- states

-- The code that is left of a frame stands at an address, and the whole of its function behind the entry of the function. Where
-- that code needs a frame,
-- the function takes one.
pub record IsIn (map : Map) (code : Code) (most at : ℕ) (frame : Frame PlacedLine) : Type 0 where
  pub forms : Forms
  pub start : ℕ
  pub start_word : start % 4 ≡ 0
  pub whole : LinesAt map forms code start frame.whole start frame.whole
  pub here : LinesAt map forms code start frame.whole at frame.code
  pub at_word : at % 4 ≡ 0
  pub below : at < 2 ^ 32
  pub whole_plain : ArePlain frame.whole frame.whole
  pub plain : ArePlain frame.whole frame.code
  pub few_whole : length frame.whole ≤ most
  pub few : length frame.code ≤ most
  pub takes : takes_frame map.jumps frame.code ≡ true → takes_frame map.jumps frame.whole ≡ true
  pub entry : ℕ
  pub entry_is : slice_get map.entries frame.function ≡ Some entry
  pub start_is : start ≡ entry + 4 * entry_words map.jumps
  pub forms_are : forms ≡ forms_of map.jumps frame.whole
  pub place : at + 4 * words_of_lines forms frame.code ≡ start + 4 * words_of_lines forms frame.whole

-- the words of the slots of a frame
abbrev pub Slots : Map → (ℕ → ℕ) → ℕ → (ℕ → Option ℕ) → Type 0
Slots map memory base cells =
    (k word : ℕ) → cells k ≡ Some word → (slot_offset k + 4 ≤ way_offset map.frame) × (number_at memory (base + slot_offset k) 4 ≡ word) × (word < 2 ^ 32)

-- a frame that waits for the result of a call waits for it in a0; its function takes a frame
abbrev pub AwaitsFirst : Option ℕ → Type 0
AwaitsFirst None = Unit {0}
AwaitsFirst (Some x) = x ≡ 10

abbrev pub IsWaiting : Map → Frame PlacedLine → Type 0
IsWaiting map frame = AwaitsFirst frame.into × (takes_frame map.jumps frame.whole ≡ true)

-- Frames that wait, from the newest one on, which goes on at an address, and whose first word is at another. Each is of a
-- function that takes a frame. The last word of each is the address where the frame goes on that waits for it; behind the oldest
-- frame that is the stop, and the stack ends.
abbrev pub FramesAt : Map → Code → ℕ → ℕ → ℕ → (ℕ → ℕ) → ℕ → ℕ → List (Frame PlacedLine) → Type 0
FramesAt map code most stop roof memory at base [] = (at ≡ stop) × (base ≡ roof)
FramesAt map code most stop roof memory at base (frame ∷ frames) =
    IsIn map code most at frame × Slots map memory base frame.cells × IsWaiting map frame
    × FramesAt map code most stop roof memory (number_at memory (base + way_offset map.frame) 4) (base + map.frame) frames

-- where the frame goes on that waits for the running one: that is the last word of the running one's memory, which is at an
-- address, or, where its function takes no frame, in ra
abbrev pub way_back : Bool → (ℕ → ℕ) → (ℕ → ℕ) → ℕ → ℕ
way_back true registers memory last = number_at memory last 4
way_back false registers memory last = value registers ra.number

-- The running frame and those that wait behind it. Where the function of the running one takes no frame, its memory is none that
-- is taken, below the
-- newest frame that is.
abbrev pub StackAt : Map → Code → ℕ → ℕ → ℕ → (ℕ → ℕ) → (ℕ → ℕ) → ℕ → ℕ → List (Frame PlacedLine) → Type 0
StackAt map code most stop roof registers memory at base [] = (at ≡ stop) × (base ≡ roof)
StackAt map code most stop roof registers memory at base (frame ∷ frames) =
    IsIn map code most at frame × Slots map memory base frame.cells × AwaitsFirst frame.into
    × FramesAt map code most stop roof memory (way_back (takes_frame map.jumps frame.whole) registers memory (base + way_offset map.frame))
    (base + map.frame) frames

-- the first word of the newest frame that is taken
abbrev pub newest_taken : Map → ℕ → List (Frame PlacedLine) → ℕ
newest_taken map base [] = base
newest_taken map base (frame ∷ frames) = cond (takes_frame map.jumps frame.whole) base (base + map.frame)

-- the held tokens of frames from the newest one on, whose base is an address: each by its cell and its slot
abbrev pub word_of : Option ℕ → ℕ
word_of None = 0
word_of (Some word) = word

abbrev pub links_in : ℕ → (ℕ → Option ℕ) → List ℕ → List Link → List Link
links_in base cells [] below = below
links_in base cells (k ∷ ks) below = record { cell = word_of (cells k); slot = base + slot_offset k } ∷ links_in base cells ks below

abbrev pub links_of : Map → ℕ → List (Frame PlacedLine) → List Link
links_of map base [] = []
links_of map base (frame ∷ frames) = links_in base frame.cells frame.held (links_of map (base + map.frame) frames)

-- a register whose word is known is handed out, and holds it
abbrev pub Agrees : (ℕ → Option ℕ) → (ℕ → ℕ) → Type 0
Agrees known registers = (x word : ℕ) → known x ≡ Some word → (is_handed_out x ≡ true) × (value registers x ≡ word) × (word < 2 ^ 32)

-- the processor stands for a state: its frames number `depth` at most, what is left of the input are bytes, and memory has the
-- cells and the held
-- tokens
pub record Running (map : Map) (pool : Pool) (functions : List PlacedLines) (depth stop : ℕ) (code : Code) (parts : List Part) (t : PlacedState World) (s : Processor) : Type 0 where
  pub rests : Rests map code parts s
  pub trace : s.trace ≡ t.shared.trace
  pub left : s.left ≡ t.shared.left
  pub bytes : All (λ byte. byte < 256) s.left
  pub room : length t.frames ≤ depth
  pub base : ℕ
  pub base_is : value s.registers 2 ≡ newest_taken map base t.frames + frame_bias map.jumps
  pub frames : StackAt map code (most_lines functions) stop (stack_end map depth) s.registers s.memory s.pc base t.frames
  pub registers : Agrees t.registers s.registers
  pub one : value s.registers one_register ≡ 1
  pub header : value s.registers header_register ≡ list_header
  pub cells : HoldsCells pool t.shared.cells (links_of map base t.frames) s

-- the lines that are left of the running frame
abbrev pub lines_left : List (Frame PlacedLine) → ℕ
lines_left [] = 0
lines_left (frame ∷ frames) = length frame.code

-- memory has the cells, with some held tokens
abbrev pub HasCells : Pool → Cells → Processor → Type 0
HasCells pool cells s = (links : List Link) × HoldsCells pool cells links s

-- What a run has come to stands for a turn. While it goes on, 3 instructions are saved for the exit behind main, and labels,
-- which are no
-- instructions, go by within the lines that are left. At an end memory has the cells of the world.
abbrev pub StandsFor : Map → Pool → List PlacedLines → ℕ → ℕ → Code → List Part → ℕ → ℕ → PlacedTurn World Ending → Progress
    → Type 0
StandsFor map pool functions depth stop code parts credit idle (go t) progress =
    (s : Processor) × (progress ≡ goes s) × (3 ≤ credit) × (lines_left t.frames ≤ idle) × Running map pool functions depth stop code parts t s
StandsFor map pool functions depth stop code parts credit idle (ended how shared) progress =
    (OfProcessor.ended progress.ending ≡ Some how) × (progress.processor.trace ≡ shared.trace) × HasCells pool shared.cells progress.processor
StandsFor map pool functions depth stop code parts credit idle stuck progress = ⊥

-- no run from a turn comes to one that can do nothing more
abbrev pub NeverStuck : Map → Pool → List PlacedLines → ℕ → PlacedTurn World Ending → Type 0
NeverStuck map pool functions depth turn = (n : ℕ) → state (placed_machine (primitives map.constants pool) depth functions) n turn ≢ stuck

-- what the simulation keeps
abbrev pub Related : Map → Pool → List PlacedLines → ℕ → ℕ → Code → List Part → ℕ → ℕ → PlacedTurn World Ending → Progress → Type 0
Related map pool functions depth stop code parts credit idle turn progress =
    NeverStuck map pool functions depth turn × StandsFor map pool functions depth stop code parts credit idle turn progress

-- what a run may pass: while it goes on outside of the runtime's words, it touches no free cell
abbrev pub Passing : Map → Pool → Progress → Type 0
Passing map pool progress = TouchesNoFreeCell map.runtime runtime_words pool.cells progress
