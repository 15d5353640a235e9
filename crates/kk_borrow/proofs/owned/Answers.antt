use Rattle.std.proofs.Common.{[], ◌≡◌, ◌++◌, ◌∷◌, map, ap, sym, ◌∙◌, subst}
use Rattle.std.proofs.lemmas.List.{map-append}
use Rattle.std.proofs.lemmas.Result.{IfOk-weaker}
use Rattle.kk_syntax.specs.PositionsOf.{positions_of}
use Rattle.kk_syntax.specs.Programs.{function_tree, program_tree}
use Rattle.kk_borrow.specs.Demands.{rules_from}
use Rattle.kk_syntax.specs.OwnedPositions.{IsLeast}
use Rattle.kk_syntax.specs.OwnedSearch.{each_lent}
use Rattle.kk_borrow.specs.Rules.{rule_tree, rule_trees}
use Rattle.kk_borrow.specs.Standings.{ownerships, waitings, none_waiting}
use Rattle.kk_borrow.proofs.Rows.{idle}
use Rattle.kk_borrow.proofs.Search.{Searches, start, next, end}
use Rattle.kk_borrow.proofs.WaitLists.{nothing_left}
use Rattle.kk_borrow.proofs.owned.Goals as goal

pub apply-init : goal.apply-init
apply-init c =
    let at = ap (map function_tree) c.deref.ensures.value in
    let standings = c.in_ok-standings.standings in
    start (program_tree c.args.program.now) (ownerships standings) (waitings standings) (rule_trees c.in_ok-rules.rules.items)
    (c.in_ok-standings.ensures.ownerships ∙ ap each_lent at)
    (c.in_ok-standings.ensures.waitings ∙ ap none_waiting at)
    (c.in_ok-rules.ensures ∙ ap (λ functions. rules_from 0 (map function_tree functions)) c.deref-2.ensures.value)

pub apply-preserved : goal.apply-preserved
apply-preserved c =
    let program = program_tree c.args.program.now in
    let rest = rw c.in-Some.is at c.pop.ensures.items in
    let whole = ap rule_trees rest ∙ map-append rule_tree c.pop.new.self.items (c.in-Some.rule ∷ []) in
    next program (ownerships c.apply.standings) (ownerships c.apply-in-Some.new.standings) (waitings c.apply.standings) (waitings c.apply-in-Some.new.standings) (rule_trees c.pop.new.self.items ++ rule_tree c.in-Some.rule ∷ []) (rule_trees c.apply-in-Some.new.rules.items)
    (subst (λ queue. Searches program (ownerships c.apply.standings) (waitings c.apply.standings) queue) whole c.apply.invariant)
    (c.in_ok-apply.ensures.follows program)

pub returns : goal.returns
returns c =
    let program = program_tree c.args.program.now in
    let rules = c.apply.rules in
    let none = rw c.in_default.is at c.pop.ensures.cases in
    let last = subst (λ queue. Searches program (ownerships c.apply.standings) (waitings c.apply.standings) (rule_trees queue)) (nothing_left rules.items rules.len rules.ok.0 none.0) c.apply.invariant in
    let least = end program (ownerships c.apply.standings) (waitings c.apply.standings) last (idle (λ row. row.items) c.apply.standings.rows.items) in
    IfOk-weaker c.positions.result (λ positions. positions_of positions ≡ ownerships c.apply.standings) (λ positions. IsLeast program (positions_of positions)) (λ positions is. subst (λ table. IsLeast program table) (sym is) least) c.positions.ensures
