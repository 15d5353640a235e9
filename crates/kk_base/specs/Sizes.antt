-- The sizes that an image is built with.
use Rattle.std.specs.Prelude.{ℕ, ◌<◌, ◌≤◌}

-- the greatest number of cells of its heap
abbrev pub greatest_cells : ℕ
greatest_cells = 1048576

-- the greatest number of calls that are open at a time
abbrev pub greatest_depth : ℕ
greatest_depth = 65536

-- so many cells, and calls of such a depth, may be asked for
pub record AreSizes (cells depth : ℕ) : Type 0 where
  pub few_cells : cells ≤ greatest_cells
  pub some_depth : 0 < depth
  pub small_depth : depth ≤ greatest_depth
