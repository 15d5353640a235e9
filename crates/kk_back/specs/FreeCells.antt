-- That all cells of an image are free.
use Rattle.std.specs.Prelude.{◌≡◌, ℕ, ◌+◌, ◌*◌, ◌≤◌, ◌%◌, true}
use Rattle.cell_heap.specs.Cells.{occurs}
use Rattle.rv_isa.specs.Numbers.{cell_size}
use Rattle.rv_isa.specs.FreeCells.{cells_from, free_list, free_cells}
use Rattle.rv_isa.specs.Processor.{Processor, can_store}

-- So many cells stand one behind the other in memory that can be stored to, from an address on. The free cells are these, each
-- once, and no other address is among them.
pub record AreAllFree (cells : ℕ) (s : Processor) : Type 0 where
  pub first : ℕ
  pub aligned : first % cell_size ≡ 0
  pub stores : (at : ℕ) → first ≤ at → at + 4 ≤ first + cell_size * cells → can_store s.parts at 4 ≡ true
  pub each_once : (x : ℕ) → occurs x (free_list cells s) ≡ occurs x (cells_from first cells)
  pub number : free_cells cells s ≡ cells
