use Rattle.cell_heap.specs.Pool.{places}
use Rattle.cell_heap.specs.Counts.{credit}
use Rattle.std.proofs.Common.{◌+◌, [], ◌∷◌}
use Rattle.cell_heap.specs.Blocks.{seen_cells}
use Rattle.cell_heap.proofs.RoutineTurns.{turns_taken_first}
use Rattle.cell_heap.proofs.MemoryAfterDrop.{drop-holds}
use Rattle.cell_heap.proofs.laws.drops_keep_blocks.Goals as goal

pub returns : goal.returns
returns c =
    λ pool cells links s t reference work holds is memory others.
    drop-holds holds work (turns_taken_first (2 + credit 1 1 (places pool) (seen_cells cells)) work (reference ∷ []) cells.frees (seen_cells cells) is) memory others
