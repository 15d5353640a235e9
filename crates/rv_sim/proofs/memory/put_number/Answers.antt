use Rattle.std.proofs.Common.{take, rules}
use Rattle.rv_sim.proofs.AreaBytes.{with_number-put}
use Rattle.rv_sim.proofs.memory.put_number.Goals as goal

pub returns-clause-put : goal.returns-clause-put
returns-clause-put c =
    with_number-put _ _ c.args.at c.args.width c.args.word (take c.from.result c.to_le_bytes-bytes.result) c.put.ensures.put (search rules) c.requires.width
