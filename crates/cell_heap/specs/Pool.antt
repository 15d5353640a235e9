-- The place of a program's cells in memory: 32 bytes each, one behind the other, at multiples of 32.
use Rattle.std.specs.Prelude.{◌≡◌, ℕ, ◌+◌, ◌*◌, ◌%◌, ◌^◌, ◌<◌, ◌≤◌, List, true}
use Rattle.kk_base.specs.Memory.{Part}
use Rattle.rv_isa.specs.FreeCells.{cells_from}
use Rattle.rv_isa.specs.Numbers.{cell_size}
use Rattle.rv_isa.specs.Processor.{can_load, can_store}

-- the address of the first cell, and how many there are
pub record Pool : Type 0 where
  pub first : ℕ
  pub cells : ℕ

abbrev pub end_of : Pool → ℕ
end_of pool = pool.first + cell_size * pool.cells

-- a cell stands at the address
pub record IsCell (pool : Pool) (at : ℕ) : Type 0 where
  pub behind : pool.first ≤ at
  pub before : at < end_of pool
  pub aligned : at % cell_size ≡ 0

-- all cells of the pool
abbrev pub places : Pool → List ℕ
places pool = cells_from pool.first pool.cells

-- the cells lie behind address 0, which is no cell's, and their words can be loaded and stored
pub record IsUsable (pool : Pool) (parts : List Part) : Type 0 where
  pub aligned : pool.first % cell_size ≡ 0
  pub some : 0 < pool.first
  pub below : end_of pool < 2 ^ 32
  pub loads : (at : ℕ) → pool.first ≤ at → at + 4 ≤ end_of pool → can_load parts at 4 ≡ true
  pub stores : (at : ℕ) → pool.first ≤ at → at + 4 ≤ end_of pool → can_store parts at 4 ≡ true
