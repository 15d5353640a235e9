use Rattle.rv_cells.proofs.TokenMarks.{block_slots}
use Rattle.rv_cells.proofs.slots.+slots.Goals as goal

pub slots_of_block-returns : goal.slots_of_block-returns
slots_of_block-returns t c =
    block_slots c.args.block.now c.deref.result.now c.in_ok-first.first c.in_ok-last.last c.max.result c.deref.ensures.value
    c.in_ok-first.ensures c.in_ok-last.ensures c.max.ensures
