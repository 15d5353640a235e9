-- The free cells of an image: those on a chain through memory, and then those that were never used, which lie between two addresses.
-- x8 holds the address of the first cell of the chain, and the word at a cell's address that of the next; x18 holds the address of the first
-- cell never used, and x19 the end of all cells.
use Rattle.std.specs.Prelude.{ℕ, zero, suc, ◌+◌, ◌-◌, ◌/◌, ◌%◌, List, [], ◌∷◌, ◌++◌, take, length, ◌&&◌, if◌then◌else◌, nat_eq, nat_le}
use Rattle.kk_base.specs.Memory.{Part}
use Rattle.rv_isa.specs.Numbers.{cell_size}
use Rattle.rv_isa.specs.Bytes.{number_at}
use Rattle.rv_isa.specs.Processor.{Processor, value, lies_in_part}

-- the addresses on the chain from one on. It ends at 0, at a word that does not lie in one part, or after `cells` members
abbrev pub chain : List Part → (ℕ → ℕ) → ℕ → ℕ → List ℕ
chain parts memory zero at = []
chain parts memory (suc cells) at =
    if nat_eq at 0 then []
    else if lies_in_part parts at 4 then at ∷ chain parts memory cells (number_at memory at 4)
    else []

abbrev pub free_chain : ℕ → Processor → List ℕ
free_chain cells s = chain s.parts s.memory cells (value s.registers 8)

-- so many cells, one behind the other, from an address on
abbrev pub cells_from : ℕ → ℕ → List ℕ
cells_from at zero = []
cells_from at (suc count) = at ∷ cells_from (at + cell_size) count

-- how many cells lie from one address on below another; none where one of the two is no multiple of a cell's size, or the first is above the second
abbrev pub border_size : ℕ → ℕ → ℕ
border_size low high =
    if nat_eq (low % cell_size) 0 && nat_eq (high % cell_size) 0 && nat_le low high then (high - low) / cell_size else 0

-- the cells never used
abbrev pub border : Processor → List ℕ
border s = cells_from (value s.registers 18) (border_size (value s.registers 18) (value s.registers 19))

-- the free cells, at most `cells` in all
abbrev pub free_list : ℕ → Processor → List ℕ
free_list cells s = take cells (free_chain cells s ++ border s)

-- how many there are
abbrev pub free_cells : ℕ → Processor → ℕ
free_cells cells s = length (free_list cells s)
