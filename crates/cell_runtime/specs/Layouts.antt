-- Where the runtime's data stand in the image's memory part: the buffer, the cells, and the frames of the stack.
use Rattle.std.specs.Prelude.{ℕ, ◌+◌, ◌*◌, cond, nat_lt}
use Rattle.rv_isa.specs.Numbers.{cell_size}
use Rattle.rv_isa.specs.Sizes.{reach_down, narrow_frame}
use Rattle.cell_runtime.specs.declared.layout.Layout.{Layout}

-- How far the stack pointer stands above the first word of its frame. A load reaches 2,048 bytes down and almost as many up, so it
-- stands at the first word where the frame is not larger than that, and else within the frame.
abbrev pub below_pointer : ℕ → ℕ
below_pointer frame_bytes = cond (nat_lt narrow_frame frame_bytes) reach_down 0

-- the bytes before the cells: the buffer, and what is missing to a multiple of a cell's
abbrev pub bytes_before_cells : ℕ
bytes_before_cells = cell_size

-- The cells stand behind these, and the lowest frame at their end.
abbrev pub layout_of : ℕ → ℕ → ℕ → Layout
layout_of cells depth frame_bytes = record {
  cells = bytes_before_cells;
  cells_end = bytes_before_cells + cell_size * cells;
  stack = bytes_before_cells + cell_size * cells + below_pointer frame_bytes;
  stack_end = bytes_before_cells + cell_size * cells + below_pointer frame_bytes + depth * frame_bytes;
}
