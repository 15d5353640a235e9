use Rattle.std.proofs.Common.{◌≡◌, ◌+◌, refl, sym, ◌∙◌, subst, arith}
use Rattle.kk_unify.specs.GraphOf.{graph_of, variables_of}
use Rattle.kk_walk.specs.Walks.{Opens}
use Rattle.kk_walk.proofs.NewNodes.{adds_opens, opens_none, opens_more}
use Rattle.kk_walk.proofs.build.opened.Goals as goal

pub loop-init : goal.loop-init
loop-init c =
    let a = graph_of c.args.graph.now in
    record {
      opens = subst (λ ns. Opens a a ns 0) (sym c.new-numbers.ensures.items) (opens_none a);
      same = refl;
    }

pub loop-preserved : goal.loop-preserved
loop-preserved c =
    let a = graph_of c.args.graph.now in
    let b = graph_of c.loop.graph in
    let d = graph_of c.open.new.self in
    let more = opens_more a b d c.loop.numbers.items c.in_ok-number.number c.loop.counter c.loop.invariant.opens (adds_opens (variables_of c.loop.graph) b d c.loop.graph.formed c.in_ok-number.number c.in_ok-number.ensures.added) in
    record {
      opens = subst (λ ns. Opens a d ns (c.loop.counter + 1)) (sym c.in_ok-push.ensures.items) more;
      same = c.in_ok-number.ensures.variables ∙ c.loop.invariant.same;
    }

pub returns-clause-opens : goal.returns-clause-opens
returns-clause-opens c =
    let all : c.loop.counter ≡ c.args.count = omega arith in
    subst (λ n. Opens (graph_of c.args.graph.now) (graph_of c.loop.graph) c.loop.numbers.items n) all c.loop.invariant.opens
