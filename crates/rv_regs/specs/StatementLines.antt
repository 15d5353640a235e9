-- Which lines of code with places are the statements of the code over values that it was made of.
use Rattle.std.specs.Prelude.{ℕ, zero, suc, List, [], ◌∷◌}
use Rattle.rv_isa.specs.PlacedCode.{PlacedLine, does, moves, PlacedLines}

-- the index of the k-th line that is no move; moves are counted in it
abbrev pub line_in : List PlacedLine → ℕ → ℕ
line_in [] k = 0
line_in (moves alive value way ∷ code) k = suc (line_in code k)
line_in (does alive action args into ∷ code) zero = 0
line_in (does alive action args into ∷ code) (suc k) = suc (line_in code k)

-- that of the function f; 0 where there is no such function
abbrev pub line_of : List PlacedLines → ℕ → ℕ → ℕ
line_of [] f k = 0
line_of (function ∷ functions) zero k = line_in function.code k
line_of (function ∷ functions) (suc f) k = line_of functions f k
