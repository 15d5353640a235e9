-- A program in counted form on the cells of a pool, and a pool whose cells are all free.
use Rattle.std.specs.Prelude.{◌≡◌, ℕ}
use Rattle.kk_counted.specs.CountedCodes.{CountedProgram}
use Rattle.kk_counted.specs.CountedStates.{CountedSetting}
use Rattle.cell_heap.specs.Pool.{Pool, IsCell}
use Rattle.cell_heap.specs.Blocks.{Cells, unused}

-- a program in counted form, on the cells of a pool and with such a depth
abbrev pub setting_on : CountedProgram → Pool → ℕ → CountedSetting
setting_on code pool depth = record { program = code; cells = pool.cells; depth = depth }

-- each cell of a pool is free
abbrev pub AreFree : Pool → Cells → Type 0
AreFree pool cells = (at : ℕ) → IsCell pool at → cells.blocks at ≡ unused
