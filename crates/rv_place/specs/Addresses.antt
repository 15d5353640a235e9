-- Where the parts of placed code stand: how many instructions each line is, and the addresses of functions, of labels and of
-- the runtime's routines.
use Rattle.std.specs.Prelude.{◌==◌, ◌≡◌, ◌≢◌, ◌⊎◌, ℕ, ◌+◌, ◌-◌, ◌*◌, ◌/◌, ◌^◌, List, [], ◌∷◌, Option, Some, None, Bool, true, false}
use Rattle.std.specs.Prelude.{◌&&◌, ◌||◌, cond, nat_lt, map}
use Rattle.std.specs.List.{list_any}
use Rattle.rv_isa.specs.declared.asm.Action.{Action}
use Rattle.rv_isa.specs.declared.asm.Action.TheVariants.{Compute, Label, Jump, Branch, Call, TailCall, Return, Routine, Hold}
use Rattle.rv_isa.specs.declared.asm.Action.TheVariants.{Unhold, Room}
use Rattle.rv_isa.specs.declared.asm.Operation.{Operation}
use Rattle.rv_isa.specs.declared.asm.Operation.TheVariants.{Dup}
use Rattle.rv_isa.specs.declared.placed.Way.{Way}
use Rattle.rv_isa.specs.declared.placed.Way.TheVariants.{Copy, Load, Store}
use Rattle.rv_isa.specs.declared.placed.Place.{Place}
use Rattle.rv_isa.specs.declared.placed.Place.TheVariants.{Register as register, Slot as slot}
use Rattle.rv_isa.specs.declared.placed.Operand.{Operand}
use Rattle.rv_isa.specs.declared.placed.Symbol.{Symbol}
use Rattle.rv_isa.specs.PlacedCode.{PlacedLine, does, moves, PlacedLines}
use Rattle.rv_isa.specs.PlacedMachine.{is_label_line, first_slot}
use Rattle.rv_isa.specs.Conventions.{is_idle}
use Rattle.rv_isa.specs.LinePlaces.{is_copy}
use Rattle.rv_isa.specs.Sizes.{reach_down, narrow_frame, wide_frame}
use Rattle.rv_place.specs.Instructions.{words_of_operation, words_of_jump, words_of_branch, words_of_routine, words_to_hold}
use Rattle.rv_place.specs.declared.reach.Forms.{Forms}
use Rattle.rv_place.specs.declared.reach.Reach.{Reach}
use Rattle.rv_place.specs.declared.reach.Reach.TheVariants.{Near, Far, Wide}

-- ---- functions that take a frame

-- whether an operation writes ra: where a count is raised, ra has it for a while
abbrev pub operation_links : Operation → Bool
operation_links Dup = true
operation_links _ = false

-- Whether an action writes ra, as a call does, which has the way back in it, or has a slot: a token is held in one, and taken back
-- from it. A Room compares the frame of its function with the lowest one.
abbrev pub action_needs_frame : Action → Bool
action_needs_frame (Compute operation) = operation_links operation
action_needs_frame (Call f) = true
action_needs_frame (Routine routine) = true
action_needs_frame Hold = true
action_needs_frame Unhold = true
action_needs_frame Room = true
action_needs_frame _ = false

-- whether a move has a slot
abbrev pub has_slot : Way → Bool
has_slot (Copy from to) = false
has_slot (Load from to) = true
has_slot (Store from to) = true

-- whether a line needs a frame: one that has a slot, or that writes ra
abbrev pub needs_frame : PlacedLine → Bool
needs_frame (does alive action args into) = action_needs_frame action
needs_frame (moves alive value way) = has_slot way

-- A function takes a frame where one of its lines needs it. Where jumps are not near, which may write ra, each function takes one.
abbrev pub takes_frame : Reach → List PlacedLine → Bool
takes_frame Near lines = list_any needs_frame lines
takes_frame Far lines = true
takes_frame Wide lines = true

abbrev pub frames_taken : Reach → List PlacedLines → List Bool
frames_taken jumps functions = map (λ (function : PlacedLines). takes_frame jumps function.code) functions

-- ---- lines

-- how many instructions give the stack pointer another frame: a wide one is given in two parts
abbrev pub words_of_shift : Reach → ℕ
words_of_shift Near = 1
words_of_shift Far = 1
words_of_shift Wide = 2

-- how many instructions a return is: where the function has no frame, one
abbrev pub words_of_return : Forms → ℕ
words_of_return forms = cond forms.frame (2 + words_of_shift forms.jumps) 1

-- how far above a frame's first word the stack pointer stands: a load reaches as far down as up
abbrev pub frame_bias : Reach → ℕ
frame_bias Near = 0
frame_bias Far = 0
frame_bias Wide = reach_down

-- the slot whose address is the stack pointer
abbrev pub pointer_slot : Reach → ℕ
pointer_slot jumps = frame_bias jumps / 4

abbrev pub is_pointer_slot : Reach → Option ℕ → Bool
is_pointer_slot jumps None = false
is_pointer_slot jumps (Some k) = k == pointer_slot jumps

-- whether the token that an action holds is in that slot
abbrev pub is_at_pointer : Reach → List Operand → Bool
is_at_pointer jumps args = is_pointer_slot jumps (first_slot args)

-- how many instructions give the address of a frame: none where the stack pointer is at its first word
abbrev pub words_to_frame : Reach → ℕ
words_to_frame Near = 0
words_to_frame Far = 0
words_to_frame Wide = 1

-- how many instructions test whether a frame is left: they compare the newest frame with the lowest one, before a jump to the stop
abbrev pub test_words : Reach → ℕ
test_words jumps = words_to_frame jumps + 1 + words_of_jump jumps

-- how many instructions an action is, by the forms of jumps and branches
abbrev pub words_of_action : Forms → Action → List Operand → ℕ
words_of_action forms (Compute operation) args = words_of_operation operation
words_of_action forms (Label l) args = 0
words_of_action forms (Jump l) args = words_of_jump forms.jumps
words_of_action forms (Branch condition l) args = words_of_branch forms.jumps forms.branches
words_of_action forms (Call f) args = words_of_jump forms.jumps
words_of_action forms (TailCall f) args = words_of_jump forms.jumps
words_of_action forms Return args = words_of_return forms
words_of_action forms (Routine routine) args = words_of_routine forms.jumps routine
words_of_action forms Hold args = words_to_hold (is_at_pointer forms.jumps args)
words_of_action forms Unhold args = 3
words_of_action forms Room args = test_words forms.jumps

-- whether two places are one register
abbrev pub is_same_register : Place → Place → Bool
is_same_register (register r) (register q) = r.number == q.number
is_same_register (register r) (slot k) = false
is_same_register (slot k) place = false

-- whether the one argument stands already where the value goes
abbrev pub stands_there : List Operand → Option Operand → Bool
stands_there [] into = false
stands_there (arg ∷ []) None = false
stands_there (arg ∷ []) (Some into) = is_same_register arg.place into.place
stands_there (arg ∷ other ∷ args) into = false

-- whether the action gives a word to the register that holds it always, or one that is lost
abbrev pub gives_idly : Action → Option Operand → Bool
gives_idly action None = false
gives_idly action (Some into) = is_idle action into.place

-- that is no instruction, nor is a copy of such an argument
abbrev pub is_silent : Action → List Operand → Option Operand → Bool
is_silent action args into = (is_copy action && stands_there args into) || gives_idly action into

abbrev pub words_of_line : Forms → PlacedLine → ℕ
words_of_line forms (does alive action args into) = cond (is_silent action args into) 0 (words_of_action forms action args)
words_of_line forms (moves alive value way) = 1

abbrev pub words_of_lines : Forms → List PlacedLine → ℕ
words_of_lines forms [] = 0
words_of_lines forms (line ∷ lines) = words_of_line forms line + words_of_lines forms lines

-- the address of a label in lines that stand at an address, if it is there
abbrev pub label_address : Forms → ℕ → ℕ → List PlacedLine → Option ℕ
label_address forms l at [] = None
label_address forms l at (line ∷ lines) = cond (is_label_line l line) (Some at) (label_address forms l (at + 4 * words_of_line forms line) lines)

-- ---- near and far

-- near where there are fewer instructions than a limit
abbrev pub reach_of : ℕ → ℕ → Reach
reach_of limit words = cond (nat_lt words limit) Near Far

-- how many bytes a branch reaches back: its distance has 13 bits, sign-extended (RISC-V Unprivileged ISA, 2.5)
abbrev pub branch_reach : ℕ
branch_reach = 2 ^ 12

-- and a jump, whose distance has 21 bits
abbrev pub jump_reach : ℕ
jump_reach = 2 ^ 20

-- a near branch leads everywhere within fewer instructions than these, and a near jump within fewer than those
abbrev pub branch_words : ℕ
branch_words = branch_reach / 4

abbrev pub jump_words : ℕ
jump_words = jump_reach / 4

-- the forms of a function in a text whose jumps lead so far: where its lines are few instructions with near branches, they are near
abbrev pub forms_of : Reach → List PlacedLine → Forms
forms_of jumps lines = record {
  jumps = jumps;
  branches = reach_of branch_words (words_of_lines (record { jumps = jumps; branches = Near; frame = takes_frame jumps lines }) lines);
  frame = takes_frame jumps lines;
}

-- ---- functions

-- A function begins with its entry. It tests whether a frame is left; behind that test a function that takes a frame does so, and
-- saves the way back. A function that takes none has there, for tail calls, what gives a frame back, and as many instructions.
abbrev pub entry_words : Reach → ℕ
entry_words jumps = words_to_frame jumps + 2 + words_of_jump jumps + words_of_shift jumps

-- how many instructions it is at most: as many as where frames are wide
abbrev pub most_entry_words : ℕ
most_entry_words = entry_words Wide

-- How many of its callee's first instructions a tail call leaves out, by whether its own function takes a frame, and whether the
-- callee does: the
-- entry; where only one of them takes a frame, the test alone.
abbrev pub skipped_words : Reach → Bool → Bool → ℕ
skipped_words jumps true true = entry_words jumps
skipped_words jumps true false = test_words jumps
skipped_words jumps false true = test_words jumps
skipped_words jumps false false = entry_words jumps

abbrev pub words_of_function : Reach → PlacedLines → ℕ
words_of_function jumps function = entry_words jumps + words_of_lines (forms_of jumps function.code) function.code

-- the addresses of functions that stand one behind the other
abbrev pub entries_from : Reach → ℕ → List PlacedLines → List ℕ
entries_from jumps at [] = []
entries_from jumps at (function ∷ functions) = at ∷ entries_from jumps (at + 4 * words_of_function jumps function) functions

abbrev pub words_of_functions : Reach → List PlacedLines → ℕ
words_of_functions jumps [] = 0
words_of_functions jumps (function ∷ functions) = words_of_function jumps function + words_of_functions jumps functions

-- ---- frames

-- the most bytes of a frame
abbrev pub greatest_frame : Reach → ℕ
greatest_frame Near = narrow_frame
greatest_frame Far = narrow_frame
greatest_frame Wide = wide_frame

-- where a slot stands above the first word of its frame
abbrev pub slot_offset : ℕ → ℕ
slot_offset k = 4 * k

-- where the last word of a frame of so many bytes stands above the first one: it is the way back
abbrev pub way_offset : ℕ → ℕ
way_offset frame = frame - 4

-- ---- the runtime's symbols

-- a symbol's label comes first behind so many instructions, by the labels of the runtime's lines and the numbers of instructions
-- before them
abbrev pub IsBehind : Symbol → ℕ → List (Symbol × ℕ) → Type 0
IsBehind symbol before [] = ⊥
IsBehind symbol before ((other, count) ∷ labels) =
    ((other ≡ symbol) × (count ≡ before)) ⊎ ((other ≢ symbol) × IsBehind symbol before labels)
