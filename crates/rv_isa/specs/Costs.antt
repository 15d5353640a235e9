-- The most instructions that each action takes once it is placed.
use Rattle.std.specs.Prelude.{ℕ, ◌+◌, ◌*◌, List, [], ◌∷◌, Option, Some, None, length}
use Rattle.rv_isa.specs.declared.asm.Action.{Action}
use Rattle.rv_isa.specs.declared.asm.Action.TheVariants.{Compute, Label, Jump, Branch, Call, TailCall, Return, Routine, Hold, Unhold, Room}
use Rattle.rv_isa.specs.declared.asm.Operation.{Operation}
use Rattle.rv_isa.specs.declared.asm.Operation.TheVariants.{Li, La, Dup, Free}
use Rattle.rv_isa.specs.declared.routine.Routine.{Routine as Called}
use Rattle.rv_isa.specs.declared.routine.Routine.TheVariants.{Drop}
use Rattle.rv_isa.specs.AsmCode.{Line, Lines}
use Rattle.rv_isa.specs.PlacedCode.{PlacedLine, does, moves, PlacedLines}
use Rattle.rv_isa.specs.Primitives.{Primitives}

-- A constant is two instructions at most, and an address two. A count is loaded, raised and stored, unless the reference names no cell;
-- a token is put before the free cells, unless it is null. Each other operation is one, and a copy none where the value stands already, as a
-- constant is none in the register that holds it always.
abbrev pub operation_instructions : Operation → ℕ
operation_instructions (Li word) = 2
operation_instructions (La constant) = 2
operation_instructions Dup = 5
operation_instructions Free = 3
operation_instructions _ = 1

-- a move is one instruction
abbrev pub move_instructions : ℕ
move_instructions = 1

-- a routine, where its arguments are there
abbrev pub routine_instructions : {H E W : Type 0} → Primitives H E W → Action → Option (List ℕ) → Option ℕ → H → ℕ
routine_instructions m (Routine routine) (Some words) held shared = m.lasts routine words held shared
routine_instructions m _ _ held shared = 0

-- A far jump is two instructions, and a branch to a far label one over a jump. A call has its callee's entry: it compares the
-- newest frame with the end of the cells, takes a frame and saves the return address. A Room only compares so, and branches over a jump. A
-- return loads the address and gives the frame back; a large frame is taken and given back in two parts. Where one of two functions takes
-- no frame, a tail call from one to the other takes or gives back that of the other one. A token in a register is put on the held chain;
-- one that is taken off is loaded from its slot first. An action is as many instructions where it is written, but for a tail call and a
-- drop.
abbrev pub action_instructions : Action → ℕ
action_instructions (Compute operation) = operation_instructions operation
action_instructions (Label l) = 0
action_instructions (Jump l) = 2
action_instructions (Branch condition l) = 3
action_instructions (Call f) = 7
action_instructions (TailCall f) = 3
action_instructions Return = 4
action_instructions (Routine routine) = 2
action_instructions Hold = 5
action_instructions Unhold = 3
action_instructions Room = 4

abbrev pub instructions_of : {H E W : Type 0} → Primitives H E W → Action → Option (List ℕ) → Option ℕ → H → ℕ
instructions_of m action words held shared = action_instructions action + routine_instructions m action words held shared

-- ---- moves

-- The moves for the arguments of an action, at most. Each is loaded; of a Hold, the token is stored in its slot and loaded. Those of a
-- computation may be stored again behind it, where they are still needed; those of a call are stored once more, by its callee. A token
-- that is taken back is in its slot, from which the action itself loads it.
abbrev pub argument_moves : Action → ℕ → ℕ
argument_moves (Compute operation) count = 2 * count
argument_moves (Call f) count = 2 * count
argument_moves (TailCall f) count = 2 * count
argument_moves Unhold count = 0
argument_moves _ count = count

-- The moves that a statement may have besides. A value that stands where a drop takes its reference, and is read on behind it, leaves that
-- register first.
abbrev pub spare_moves : Action → ℕ
spare_moves (Routine Drop) = 1
spare_moves _ = 0

-- the move for a result, which is stored
abbrev pub result_moves : {A : Type 0} → Option A → ℕ
result_moves None = 0
result_moves (Some into) = 1

-- the moves that a line needs for what it reads and writes, where each value has a slot of the frame
abbrev pub line_moves : Line → ℕ
line_moves line = argument_moves line.action (length line.args) + result_moves line.into

-- ---- how long code is

-- What may be written in place of a tail call where a function calls itself: three lines of two instructions each, a branch and a
-- jump.
abbrev pub tail_call_length : ℕ
tail_call_length = 11

-- The most instructions that are written for a call of a routine. Before that of a drop six lower the count of the cell.
abbrev pub routine_length : Called → ℕ
routine_length Drop = 8
routine_length _ = 2

-- the most instructions that are written for an action
abbrev pub action_length : Action → ℕ
action_length (TailCall f) = tail_call_length
action_length (Routine routine) = routine_length routine
action_length action = action_instructions action

-- The most instructions that a line is, with its moves, that a code is, and that all functions are. Those of a function store its
-- parameters first.
abbrev pub line_length : Line → ℕ
line_length line = line_moves line * move_instructions + action_length line.action

abbrev pub code_length : List Line → ℕ
code_length [] = 0
code_length (line ∷ code) = line_length line + code_length code

abbrev pub functions_length : List Lines → ℕ
functions_length [] = 0
functions_length (function ∷ functions) = length function.params * move_instructions + code_length function.code + functions_length functions

-- the same of code with places
abbrev pub placed_line_length : PlacedLine → ℕ
placed_line_length (does alive action args into) = action_length action
placed_line_length (moves alive value way) = move_instructions

abbrev pub placed_code_length : List PlacedLine → ℕ
placed_code_length [] = 0
placed_code_length (line ∷ code) = placed_line_length line + placed_code_length code

abbrev pub placed_functions_length : List PlacedLines → ℕ
placed_functions_length [] = 0
placed_functions_length (function ∷ functions) = placed_code_length function.code + placed_functions_length functions
