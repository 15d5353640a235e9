use Rattle.rv_isa.proofs.Reading.{read-IsWord, read-None}
use Rattle.rv_isa.proofs.decoding.decode.Goals as goal

pub returns-clause-table : goal.returns-clause-table
returns-clause-table c = λ i. rw c.look_up.ensures (read-IsWord i c.args.word)

pub returns-clause-none : goal.returns-clause-none
returns-clause-none c = rw c.look_up.ensures (read-None c.args.word)
