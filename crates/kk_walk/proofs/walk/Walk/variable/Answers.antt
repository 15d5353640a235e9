use Rattle.std.proofs.Common.{◌==◌, ap, sym, ◌∙◌}
use Rattle.std.specs.Prelude.{reverse}
use Rattle.std.specs.List.{find}
use Rattle.kk_walk.specs.declared.walk.Bound.{Bound}
use Rattle.kk_walk.specs.Steps.{nodes_of, size_of}
use Rattle.kk_walk.proofs.ShortestWalks.{variable_walked, unbound_refused}
use Rattle.kk_walk.proofs.Scopes.{newest_inside}
use Rattle.kk_walk.proofs.walk.Walk.variable.Goals as goal

pub same-requires-clause-node : goal.same-requires-clause-node
same-requires-clause-node c =
    let found = ap (λ bs. find (λ (b : Bound). b.variable == c.args.variable) (reverse bs)) (sym c.deref.ensures.value) ∙ sym c.in-Some.ensures in
    newest_inside (size_of c.args.self.now) c.args.self.now.scope.items c.args.variable c.in-Some.bound c.requires.scope found

pub returns-in-Some : goal.returns-in-Some
returns-in-Some c =
    let found = ap (λ bs. find (λ (b : Bound). b.variable == c.args.variable) (reverse bs)) (sym c.deref.ensures.value) ∙ sym c.in-Some.ensures in
    variable_walked c.args.self.now c.same.new.self c.args.variable c.args.want c.in-Some.bound c.same.result found c.same.ensures

pub returns-in-None : goal.returns-in-None
returns-in-None c =
    let found = ap (λ bs. find (λ (b : Bound). b.variable == c.args.variable) (reverse bs)) (sym c.deref.ensures.value) ∙ sym c.in-None.ensures in
    unbound_refused (nodes_of c.args.self.now) c.args.self.now.scope.items c.args.variable c.args.want found
