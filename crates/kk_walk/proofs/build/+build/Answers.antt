use Rattle.std.proofs.Common.{[], map, refl, sym, ◌∙◌, subst}
use Rattle.std.proofs.lemmas.List.{take_all}
use Rattle.kk_syntax.specs.Types.{put, type_at, type_tree}
use Rattle.kk_unify.specs.GraphOf.{graph_of, variables_of}
use Rattle.kk_walk.specs.Walks.{BuildsEach}
use Rattle.kk_walk.proofs.NewNodes.{builds_none}
use Rattle.kk_walk.proofs.TypeNodes.{int32_built, unit_built, past_built, variable_built, named_built, each_built}
use Rattle.kk_walk.proofs.build.+build.Goals as goal

pub build-returns-in-Int32-clause-builds : goal.build-returns-in-Int32-clause-builds
build-returns-in-Int32-clause-builds t c =
    int32_built (variables_of c.args.graph.now) (graph_of c.args.graph.now) (graph_of c.add.new.self) c.args.graph.now.formed c.add.result c.args.at.now c.args.ty.now c.in-Int32.is c.add.ensures.added

pub build-returns-in-Unit-clause-builds : goal.build-returns-in-Unit-clause-builds
build-returns-in-Unit-clause-builds t c =
    unit_built (variables_of c.args.graph.now) (graph_of c.args.graph.now) (graph_of c.add-in-Unit.new.self) c.args.graph.now.formed c.add-in-Unit.result c.args.at.now c.args.ty.now c.in-Unit.is c.add-in-Unit.ensures.added

pub build-returns-in-Some-clause-builds : goal.build-returns-in-Some-clause-builds
build-returns-in-Some-clause-builds t c =
    variable_built (graph_of c.args.graph.now) c.args.at.now c.args.ty.now c.in-Variable.of c.in-Some.node.now c.requires c.in-Variable.is c.in-Some.ensures.lookup.3.0 c.in-Some.ensures.lookup.1

pub build-returns-in-None-clause-builds : goal.build-returns-in-None-clause-builds
build-returns-in-None-clause-builds t c =
    past_built (variables_of c.args.graph.now) (graph_of c.args.graph.now) (graph_of c.add-in-None.new.self) c.args.graph.now.formed c.add-in-None.result c.args.at.now c.args.ty.now c.in-Variable.of c.in-Variable.is c.in-None.ensures.lookup.3 c.add-in-None.ensures.added

pub build-returns-in_ok-nodes-in-Named-clause-builds : goal.build-returns-in_ok-nodes-in-Named-clause-builds
build-returns-in_ok-nodes-in-Named-clause-builds t c =
    let a = graph_of c.args.graph.now in
    let b = graph_of c.build_each.new.graph in
    let parts = rw c.deref.ensures.value at c.in_ok-nodes-in-Named.ensures.builds in
    named_built (variables_of c.build_each.new.graph) a b (graph_of c.add-in-Named.new.self) c.build_each.new.graph.formed c.add-in-Named.result c.args.at.now c.in_ok-nodes-in-Named.nodes.items c.args.ty.now c.in-Named.by c.in-Named.arguments c.in-Named.is c.requires
    parts c.add-in-Named.ensures.added

pub build_each-loop-ty-init : goal.build_each-loop-ty-init
build_each-loop-ty-init t c =
    let a = graph_of c.args.graph.now in
    record {
      built = subst (λ ns. BuildsEach a a ns (λ r. [])) (sym c.new-nodes.ensures.items) (builds_none a);
      same = refl;
    }

pub build_each-loop-ty-preserved : goal.build_each-loop-ty-preserved
build_each-loop-ty-preserved t c = record {
  built =
      each_built (graph_of c.args.graph.now) (graph_of c.loop-ty.graph) (graph_of c.build.new.graph) c.args.at.now c.loop-ty.nodes.items c.push.new.self.items c.args.types.now c.loop-ty.ty-index c.ty-item.result c.in_ok-node.node c.requires
      c.loop-ty-test.true c.ty-item.is c.in_ok-push.ensures.items c.loop-ty.invariant.built c.in_ok-node.ensures.builds;
  same = c.in_ok-node.ensures.variables ∙ c.loop-ty.invariant.same;
}

pub build_each-returns-clause-builds : goal.build_each-returns-clause-builds
build_each-returns-clause-builds t c =
    let all = take_all c.loop-ty.ty-index c.args.types.now c.loop-ty-test.false in
    subst (λ tys. BuildsEach (graph_of c.args.graph.now) (graph_of c.loop-ty.graph) c.loop-ty.nodes.items (λ r. map (put (type_at (map r c.args.at.now))) (map type_tree tys))) all c.loop-ty.invariant.built
