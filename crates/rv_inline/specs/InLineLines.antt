-- Where in code with calls in line each line of the code stands.
use Rattle.std.specs.Prelude.{ℕ, zero, suc, ◌+◌, List, [], ◌∷◌, Option, Some, None, Bool, true, false, cond, drop, length, slice_get}
use Rattle.rv_isa.specs.declared.asm.Action.{Action}
use Rattle.rv_isa.specs.declared.asm.Action.TheVariants.{Call, Room}
use Rattle.rv_isa.specs.AsmCode.{Line, Lines}

abbrev pub is_room : Action → Bool
is_room Room = true
is_room _ = false

abbrev pub begins_with_room : List Line → Bool
begins_with_room [] = false
begins_with_room (line ∷ lines) = is_room line.action

-- how many lines a function has
abbrev pub lines_in : Option Lines → ℕ
lines_in None = 0
lines_in (Some function) = length function.code

-- How many lines stand in place of a line. For a call in line it is one more than its function has: the one that asks for room comes
-- first, and the copy stands in place of the return. Any other line stays one.
abbrev pub width_of : List Lines → Action → Bool → ℕ
width_of functions (Call g) room = cond room (suc (lines_in (slice_get functions g))) 1
width_of functions action room = 1

-- the same of a line that has become the first lines of this code
abbrev pub width : List Lines → Line → List Line → ℕ
width functions line new = width_of functions line.action (begins_with_room new)

-- The index in code with calls in line of the k-th line of the code. Of a call in line it is that of the line that asks for room.
abbrev pub index_in : List Lines → ℕ → List Line → List Line → ℕ
index_in functions k [] new = 0
index_in functions zero (line ∷ old) new = 0
index_in functions (suc k) (line ∷ old) new =
    width functions line new + index_in functions k old (drop (width functions line new) new)

abbrev pub index_by : List Lines → ℕ → Option Lines → Option Lines → ℕ
index_by functions k (Some old) (Some new) = index_in functions k old.code new.code
index_by functions k _ _ = 0

-- and of the k-th line of the function f of a program
abbrev pub line_in_line : List Lines → List Lines → ℕ → ℕ → ℕ
line_in_line q q' f k = index_by q k (slice_get q f) (slice_get q' f)
