use Rattle.std.proofs.Common.{set, ap}
use Rattle.kk_borrow.proofs.Rows.{owned_now, waits_none}
use Rattle.kk_borrow.proofs.standing.Standings.own.Goals as goal

pub returns-in_ok-append-clause-ownerships : goal.returns-in_ok-append-clause-ownerships
returns-in_ok-append-clause-ownerships c =
    let p = c.args.position in
    owned_now (λ row. row.items) c.args.self.now.rows.items p.function p.parameter c.index_mut.result.now _ c.index_mut.ensures.value (ap (set c.index_mut.result.now.items p.parameter) c.replace.ensures.after) c.requires

pub returns-in_ok-append-clause-waitings : goal.returns-in_ok-append-clause-waitings
returns-in_ok-append-clause-waitings c =
    let p = c.args.position in
    waits_none (λ row. row.items) c.args.self.now.rows.items p.function p.parameter c.index_mut.result.now _ c.index_mut.ensures.value (ap (set c.index_mut.result.now.items p.parameter) c.replace.ensures.after) c.requires
