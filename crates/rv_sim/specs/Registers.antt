-- The registers as a machine has them.
use Rattle.std.specs.Prelude.{ℕ, List, slice_index}

-- each register by its number
abbrev pub registers_of : List ℕ → ℕ → ℕ
registers_of words number = slice_index words number
