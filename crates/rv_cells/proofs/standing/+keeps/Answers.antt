use Rattle.rv_cells.proofs.Standings.{block_keeps}
use Rattle.rv_cells.proofs.standing.+keeps.Goals as goal

pub keeps_block-returns : goal.keeps_block-returns
keeps_block-returns t c =
    block_keeps c.args.standing c.args.block.now c.deref.result.now c.keeps_steps-first.result c.keeps_last-last.result c.both.result
    c.deref.ensures.value c.keeps_steps-first.ensures c.keeps_last-last.ensures c.both.ensures
