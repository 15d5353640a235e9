-- What a reader sees of the cells: each of them, the chain of free cells, the border behind which no cell was ever used, and the held tokens.
use Rattle.std.specs.Prelude.{◌≡◌, ◌≢◌, ℕ, ◌%◌, ◌<◌, ◌≤◌, ◌↔◌, List}
use Rattle.rv_isa.specs.Numbers.{cell_size}
use Rattle.cell_heap.specs.Cells.{free, Heap, occurs}
use Rattle.cell_heap.specs.Pool.{Pool, end_of, IsCell}

-- a held token, and the slot of the frame that holds it, both by their addresses
pub record Link : Type 0 where
  pub cell : ℕ
  pub slot : ℕ

-- the cells by their addresses; the chain of the cells that were given back, the next one to be taken first; the first cell that was never
-- used, or the end of all cells; and the held tokens, the newest first
pub record View : Type 0 where
  pub heap : Heap
  pub frees : List ℕ
  pub border : ℕ
  pub held : List Link

-- the free cells are those of the chain and those from the border on
pub record HasBorder (pool : Pool) (view : View) : Type 0 where
  pub aligned : view.border % cell_size ≡ 0
  pub behind : pool.first ≤ view.border
  pub within : view.border ≤ end_of pool
  pub fresh : (at : ℕ) → IsCell pool at → view.border ≤ at → view.heap at ≡ free
  pub chained : (at : ℕ) → view.heap at ≡ free → (occurs at view.frees ≢ 0) ↔ (at < view.border)
