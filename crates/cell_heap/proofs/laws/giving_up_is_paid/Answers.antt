use Rattle.cell_heap.specs.Pool.{places}
use Rattle.cell_heap.proofs.Borders.{IsPlaced-listed}
use Rattle.cell_heap.proofs.DropMeaning.{GivesUp-paid}
use Rattle.cell_heap.proofs.laws.giving_up_is_paid.Goals as goal

pub returns : goal.returns
returns c =
    λ pool given heap end gave freed a_cell a_reference are gives.
    GivesUp-paid (places pool) a_cell a_reference gives (IsPlaced-listed are.aligned (record { each = are.placed }))
