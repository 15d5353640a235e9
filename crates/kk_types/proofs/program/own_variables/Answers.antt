use Rattle.std.proofs.Common.{◌≡◌, ◌+◌, [], ◌∷◌, ◌++◌, refl, add-one, sym, ◌∙◌, subst, arith}
use Rattle.kk_syntax.specs.Types.{type_variable, variables_below}
use Rattle.kk_unify.specs.GraphOf.{graph_of, variables_of}
use Rattle.kk_walk.specs.Walks.{BuildsEach}
use Rattle.kk_walk.proofs.NewNodes.{adds_builds, builds_more, builds_none}
use Rattle.kk_types.proofs.program.own_variables.Goals as goal

pub loop-variable-init : goal.loop-variable-init
loop-variable-init c =
    let a = graph_of c.args.graph.now in
    record {
      built = subst (λ ns. BuildsEach a a ns (λ r. [])) (sym c.new-numbers.ensures.items) (builds_none a);
      same = refl;
    }

pub loop-variable-preserved : goal.loop-variable-preserved
loop-variable-preserved c =
    let a = graph_of c.args.graph.now in
    let b = graph_of c.loop-variable.graph in
    let d = graph_of c.add.new.self in
    let k = c.loop-variable.variable in
    let one = adds_builds (variables_of c.loop-variable.graph) b d c.loop-variable.graph.formed c.in_ok-number.number (λ r. type_variable k) (λ r q agree. refl) c.in_ok-number.ensures.added in
    let more = builds_more a b d c.loop-variable.numbers.items c.in_ok-number.number (λ r. variables_below k) (λ r. type_variable k) (λ r q agree. refl) c.loop-variable.invariant.built one in
    record {
      built = subst (λ ns. BuildsEach a d ns (λ r. variables_below (k + 1))) (sym c.in_ok-push.ensures.items) (subst (λ n. BuildsEach a d (c.loop-variable.numbers.items ++ (c.in_ok-number.number ∷ [])) (λ r. variables_below n)) (sym (add-one k)) more);
      same = c.in_ok-number.ensures.variables ∙ c.loop-variable.invariant.same;
    }

pub returns-clause-builds : goal.returns-clause-builds
returns-clause-builds c =
    let all : c.loop-variable.variable ≡ c.args.count = omega arith in
    subst (λ n. BuildsEach (graph_of c.args.graph.now) (graph_of c.loop-variable.graph) c.loop-variable.numbers.items (λ r. variables_below n)) all c.loop-variable.invariant.built
