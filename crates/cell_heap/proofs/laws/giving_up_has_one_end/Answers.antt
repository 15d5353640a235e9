use Rattle.cell_heap.proofs.Orders.{one_end}
use Rattle.cell_heap.proofs.laws.giving_up_has_one_end.Goals as goal

pub returns : goal.returns
returns c =
    λ given others heap end other gave freed gave_others freed_others same first second. one_end same first second
