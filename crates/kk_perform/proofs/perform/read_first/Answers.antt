use Rattle.kk_perform.proofs.Rows.{read_failed, no_room}
use Rattle.kk_perform.proofs.perform.read_first.Goals as goal

pub returns-in-Failed-clause-err : goal.returns-in-Failed-clause-err
returns-in-Failed-clause-err g c = λ input out image request is. read_failed _ _ input out image c.args.file request is c.in-Failed.ensures.kept c.in-Failed.ensures.faults c.in-Failed.ensures.named

pub returns-in-NoMemory-clause-err : goal.returns-in-NoMemory-clause-err
returns-in-NoMemory-clause-err g c = λ input out image request is. no_room _ _ input out image _ request c.in-NoMemory.ensures.kept c.in-NoMemory.ensures.faults c.in-NoMemory.ensures.named
