-- How far from the memory's begin the addresses of the runtime are.
use Rattle.std.proofs.Common.{◌≡◌, ◌≤◌, ℕ, ◌+◌, ◌*◌, Bool, true, false, cond, nat_lt, sym, subst, arith}
use Rattle.std.proofs.lemmas.Nat.{mul-le}
use Rattle.kk_base.specs.Sizes.{greatest_cells, greatest_depth}
use Rattle.rv_isa.specs.Sizes.{reach_down, narrow_frame}
use Rattle.cell_runtime.specs.declared.layout.Layout.{Layout}
use Rattle.cell_runtime.specs.Layouts.{below_pointer, layout_of}
use Rattle.cell_runtime.specs.Texts.{greatest_reach}

frames_most : (depth frame_bytes : ℕ) → depth ≤ greatest_depth → frame_bytes ≤ 2 * reach_down
    → depth * frame_bytes ≤ greatest_depth * (2 * reach_down)
frames_most depth frame_bytes few small = mul-le depth frame_bytes greatest_depth (2 * reach_down) few small

-- a pointer stands at most as far above its frame's first word as a load reaches down
pub below_most : (frame_bytes : ℕ) → below_pointer frame_bytes ≤ reach_down
below_most frame_bytes = by (nat_lt narrow_frame frame_bytes)
  where
    by : (wide : Bool) → cond wide reach_down 0 ≤ reach_down
    by true = omega arith
    by false = omega arith

pub reach_is_small : (cells depth frame_bytes : ℕ) (layout : Layout) → layout ≡ layout_of cells depth frame_bytes
    → cells ≤ greatest_cells → depth ≤ greatest_depth → frame_bytes ≤ 2 * reach_down
    → layout.cells + layout.cells_end + layout.stack_end + 11 ≤ greatest_reach
reach_is_small cells depth frame_bytes layout is few_cells few small =
    let frames = frames_most depth frame_bytes few small in
    let below = below_most frame_bytes in
    subst (λ (layout : Layout). layout.cells + layout.cells_end + layout.stack_end + 11 ≤ greatest_reach) (sym is) (omega (arith, frames, below))
