-- A heap from which references can be given up.
use Rattle.std.specs.Prelude.{◌≡◌, ◌≢◌, ℕ, ◌%◌, List}
use Rattle.rv_isa.specs.Numbers.{cell_size}
use Rattle.cell_heap.specs.Cells.{Body, no_cell, waiting, Heap}
use Rattle.cell_heap.specs.Pool.{Pool, IsCell, places}
use Rattle.cell_heap.specs.Counts.{HasCounts, IsAcyclic}

-- its cells are cells of the pool, which begins at a multiple of 32
pub record ArePlaced (pool : Pool) (heap : Heap) : Type 0 where
  pub aligned : pool.first % cell_size ≡ 0
  pub placed : (at : ℕ) → heap at ≢ no_cell → IsCell pool at

-- its cells are cells of the pool, of which none waits; with the references from elsewhere and those that are about to be given up the counts are
-- right; and no cell can be reached from itself
pub record IsSound (pool : Pool) (roots : ℕ → ℕ) (given : List ℕ) (heap : Heap) : Type 0 where
  pub aligned : pool.first % cell_size ≡ 0
  pub placed : (at : ℕ) → heap at ≢ no_cell → IsCell pool at
  pub settled : (at : ℕ) (body : Body) → heap at ≢ waiting body
  pub counts : HasCounts (places pool) roots given heap
  pub acyclic : IsAcyclic heap
