-- The addresses of the lines of placed code.
use Rattle.std.specs.Prelude.{ℕ, ◌+◌, ◌*◌, List, Option, Some, take, slice_get}
use Rattle.rv_isa.specs.PlacedCode.{PlacedLines}
use Rattle.rv_place.specs.Addresses.{words_of_lines, forms_of, entry_words}
use Rattle.rv_place.specs.Lines.{Map}

-- the address of the j-th line of a function, by that of the function: behind its entry and the lines before
abbrev pub address_in : Map → ℕ → Option ℕ → Option PlacedLines → ℕ
address_in map j (Some entry) (Some function) =
    entry + 4 * entry_words map.jumps + 4 * words_of_lines (forms_of map.jumps function.code) (take j function.code)
address_in map j _ _ = 0

-- the address of the j-th line of the function f; 0 where there is no such function
abbrev pub line_address : Map → List PlacedLines → ℕ → ℕ → ℕ
line_address map functions f j = address_in map j (slice_get map.entries f) (slice_get functions f)
