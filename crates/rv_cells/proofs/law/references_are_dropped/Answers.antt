use Rattle.rv_cells.proofs.Drops.{drops, drop_paid}
use Rattle.rv_cells.proofs.law.references_are_dropped.Goals as goal

pub returns : goal.returns
returns c = λ pool layout address owners heap next cells v aligned narrow follows fits is.
    let done = drops aligned narrow follows v next fits is in (done, drop_paid v heap next done.work is done.few done.freed)
