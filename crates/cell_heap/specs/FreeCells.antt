-- A list of the free cells.
use Rattle.std.specs.Prelude.{◌≡◌, ◌≢◌, ℕ, List}
use Rattle.cell_heap.specs.Cells.{free, Heap, occurs}

-- each free cell stands in it once, and no other address does
pub record ListsFree (heap : Heap) (cells : List ℕ) : Type 0 where
  pub once : (at : ℕ) → heap at ≡ free → occurs at cells ≡ 1
  pub no_other : (at : ℕ) → heap at ≢ free → occurs at cells ≡ 0
