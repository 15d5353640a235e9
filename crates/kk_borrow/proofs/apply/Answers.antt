use Rattle.std.proofs.Common.{Result, Ok, Err, OnOk, inl, inr, refl, sym}
use Rattle.std.proofs.lemmas.Result.{on_ok_weaker}
use Rattle.kk_borrow.specs.Standings.{ownerships, waitings}
use Rattle.kk_borrow.proofs.Steps.{at_lent, read_owned, read_unknown, read_known, read_concluded, lent_there, waits_follow, waits_less}
use Rattle.kk_borrow.proofs.WaitLists.{nothing_left}
use Rattle.kk_borrow.proofs.apply.Goals as goal

both_ok : {T E : Type 0} (P Q : Type 0) (r : Result T E) → OnOk r P → OnOk r Q → OnOk r (P × Q)
both_ok P Q (Ok x) p q = (p, q)
both_ok P Q (Err e) p q = tt

pub returns-in-Some-Owned-clause-follows : goal.returns-in-Some-Owned-clause-follows
returns-in-Some-Owned-clause-follows c program told =
    let parts = rw c.in-Some.is at c.pop.ensures.items in
    let pushed = rw c.in_ok-push-in-Some-Owned.was at c.push.ensures.items in
    let is = rw (c.in-Some-Owned.is, c.in-Some-Owned.field-0-is) at c.ownership.ensures in
    let standings = c.args.standings.now in
    read_owned program (ownerships standings) (waitings standings) c.args.rules.now.items c.args.rule (record { premises = c.pop.new.self; conclusion = c.args.rule.conclusion }) c.in-Some.premise c.push.new.self.items parts refl pushed (sym is) told

pub wait-requires : goal.wait-requires
wait-requires c =
    let is = rw (c.in-Some-Lent.is, c.in-Some-Lent.field-0-is) at c.ownership.ensures in
    at_lent (ownerships c.args.standings.now) c.in-Some.premise (sym is)

pub returns-in-Some-Lent-clause-follows : goal.returns-in-Some-Lent-clause-follows
returns-in-Some-Lent-clause-follows c =
    let parts = rw c.in-Some.is at c.pop.ensures.items in
    let is = rw (c.in-Some-Lent.is, c.in-Some-Lent.field-0-is) at c.ownership.ensures in
    on_ok_weaker c.wait.result
    (λ both program told. waits_follow c.args.standings.now c.wait.new.self c.args.rules.now.items c.args.rule (record c.args.rule { premises = c.pop.new.self }) c.in-Some.premise parts refl (sym is) both.0 both.1 program told)
    (both_ok _ _ c.wait.result c.wait.ensures.ownerships c.wait.ensures.waitings)

pub returns-in-Some-Lent-clause-less : goal.returns-in-Some-Lent-clause-less
returns-in-Some-Lent-clause-less c =
    let parts = rw c.in-Some.is at c.pop.ensures.items in
    let is = rw (c.in-Some-Lent.is, c.in-Some-Lent.field-0-is) at c.ownership.ensures in
    on_ok_weaker c.wait.result
    (λ waits. waits_less c.args.standings.now c.wait.new.self c.args.rules.now.items c.args.rule (record c.args.rule { premises = c.pop.new.self }) c.in-Some.premise parts (sym is) waits)
    c.wait.ensures.waitings

pub returns-in-Some-clause-follows : goal.returns-in-Some-clause-follows
returns-in-Some-clause-follows c program told =
    let parts = rw c.in-Some.is at c.pop.ensures.items in
    let is = rw c.in-None-ownership.is at c.ownership.ensures in
    let standings = c.args.standings.now in
    read_unknown program (ownerships standings) (waitings standings) c.args.rules.now.items c.args.rule c.pop.new.self.items c.in-Some.premise parts (sym is) told

pub own-requires : goal.own-requires
own-requires c =
    let is = rw (c.in-Some-Lent-ownership.is, c.in-Some-Lent-ownership.field-0-is) at c.ownership-in-None.ensures in
    at_lent (ownerships c.args.standings.now) c.args.rule.conclusion (sym is)

pub returns-in-Some-Lent-ownership-clause-follows : goal.returns-in-Some-Lent-ownership-clause-follows
returns-in-Some-Lent-ownership-clause-follows c =
    let standings = c.args.standings.now in
    let p = c.args.rule.conclusion in
    let none = rw c.in-None.is at c.pop.ensures.cases in
    let is = rw (c.in-Some-Lent-ownership.is, c.in-Some-Lent-ownership.field-0-is) at c.ownership-in-None.ensures in
    let lent = at_lent (ownerships standings) p (sym is) in
    let there = lent_there standings p lent in
    on_ok_weaker c.own.result
    (λ all program told.
    read_concluded program (ownerships standings) (ownerships c.own.new.self) (waitings standings) (waitings c.own.new.self) c.args.rules.now.items c.own.new.rules.items c.args.rule
    (nothing_left c.args.rule.premises.items c.args.rule.premises.len c.args.rule.premises.ok.0 none.0)
    lent all.0 all.1.0 all.1.1 there.0 there.1 told)
    (both_ok _ _ c.own.result c.own.ensures.ownerships (both_ok _ _ c.own.result c.own.ensures.waitings c.own.ensures.rules))

pub returns-in-Some-Owned-ownership-clause-follows : goal.returns-in-Some-Owned-ownership-clause-follows
returns-in-Some-Owned-ownership-clause-follows c program told =
    let standings = c.args.standings.now in
    let none = rw c.in-None.is at c.pop.ensures.cases in
    let is = rw (c.in-Some-Owned-ownership.is, c.in-Some-Owned-ownership.field-0-is) at c.ownership-in-None.ensures in
    read_known program (ownerships standings) (waitings standings) c.args.rules.now.items c.args.rule (nothing_left c.args.rule.premises.items c.args.rule.premises.len c.args.rule.premises.ok.0 none.0) (inl (sym is)) told

pub returns-clause-follows : goal.returns-clause-follows
returns-clause-follows c program told =
    let standings = c.args.standings.now in
    let none = rw c.in-None.is at c.pop.ensures.cases in
    let is = rw c.in-None-ownership-2.is at c.ownership-in-None.ensures in
    read_known program (ownerships standings) (waitings standings) c.args.rules.now.items c.args.rule (nothing_left c.args.rule.premises.items c.args.rule.premises.len c.args.rule.premises.ok.0 none.0) (inr (sym is)) told
