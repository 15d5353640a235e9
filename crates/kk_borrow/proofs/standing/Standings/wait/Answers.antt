use Rattle.std.proofs.Common.{refl}
use Rattle.kk_borrow.proofs.Rows.{waits_lent, waits_more}
use Rattle.kk_borrow.proofs.standing.Standings.wait.Goals as goal

pub returns-in_ok-push-clause-ownerships : goal.returns-in_ok-push-clause-ownerships
returns-in_ok-push-clause-ownerships c =
    let p = c.args.position in
    waits_lent (λ row. row.items) c.args.self.now.rows.items p.function p.parameter c.index_mut.result.now _ c.push.new.self c.index_mut.ensures.value refl c.requires

pub returns-in_ok-push-clause-waitings : goal.returns-in_ok-push-clause-waitings
returns-in_ok-push-clause-waitings c =
    let p = c.args.position in
    let is = rw c.in-Lent.is at c.index_mut-2.ensures.value in
    let more = rw c.in_ok-push.was at c.push.ensures.items in
    waits_more (λ row. row.items) c.args.self.now.rows.items p.function p.parameter c.index_mut.result.now _ c.in-Lent.waiting c.push.new.self c.args.rule c.index_mut.ensures.value is refl more c.requires
