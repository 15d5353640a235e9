-- Which line of rotated code is a line of the code.
use Rattle.std.specs.Prelude.{◌==◌, ℕ, zero, suc, ◌+◌, List, [], ◌∷◌, Option, Some, cond, length, slice_get}
use Rattle.rv_isa.specs.PlacedCode.{PlacedLine, PlacedLines}
use Rattle.rv_loops.specs.Rotation.{is_straight, is_call_of}

-- the straight lines with which code begins
abbrev pub head_length : List PlacedLine → ℕ
head_length [] = 0
head_length (line ∷ lines) = cond (is_straight line) (suc (head_length lines)) 0

-- how many lines a line becomes behind the test of the function f, before which so many stand
abbrev pub width : ℕ → ℕ → PlacedLine → ℕ
width f before line = cond (is_call_of f line) (before + 2) 1

-- which one of these is it: of a call of the function itself the test, behind the lines that stand before that
abbrev pub own_in : ℕ → ℕ → PlacedLine → ℕ
own_in f before line = cond (is_call_of f line) before 0

-- the index, behind the label, of the k-th line behind the test
abbrev pub spread : ℕ → ℕ → ℕ → List PlacedLine → ℕ
spread f before k [] = 0
spread f before zero (line ∷ lines) = own_in f before line
spread f before (suc k) (line ∷ lines) = width f before line + spread f before k lines

-- the index in rotated code of the k-th line of the code
abbrev pub index_in : ℕ → ℕ → ℕ → List PlacedLine → ℕ
index_in f before k [] = 0
index_in f before zero (line ∷ lines) = 0
index_in f before (suc k) (line ∷ lines) = cond (is_straight line) (suc (index_in f before k lines)) (2 + spread f before k lines)

abbrev pub index_of : ℕ → List PlacedLine → List PlacedLine → ℕ → ℕ
index_of f old new k = cond (length new == length old) k (index_in f (head_length old) k old)

-- and of the k-th line of the function f
abbrev pub index_by : ℕ → ℕ → Option PlacedLines → Option PlacedLines → ℕ
index_by f k (Some old) (Some new) = index_of f old.code new.code k
index_by f k _ _ = 0

abbrev pub rotated_line_of : List PlacedLines → List PlacedLines → ℕ → ℕ → ℕ
rotated_line_of q q' f k = index_by f k (slice_get q f) (slice_get q' f)
