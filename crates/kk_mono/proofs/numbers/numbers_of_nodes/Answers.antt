use Rattle.std.proofs.Common.{◌≡◌, map, ap, ◌∙◌}
use Rattle.kk_syntax.specs.Types.{type_at}
use Rattle.kk_mono.specs.Places.{node_at}
use Rattle.kk_mono.specs.Views.{types_in}
use Rattle.kk_mono.proofs.TypeNumbers.{grows_on, types_stay, node_more}
use Rattle.kk_mono.proofs.numbers.numbers_of_nodes.Goals as goal

pub loop-node-preserved : goal.loop-node-preserved
loop-node-preserved c =
    let before = types_in c.args.types.now in
    let now = types_in c.loop-node.types in
    let after = types_in c.number_of_node.new.types in
    let same : map (type_at now) c.args.at.now ≡ map (type_at before) c.args.at.now = types_stay before now c.args.at.now c.requires c.loop-node.invariant.grows in
    record {
      grows = grows_on before now after c.loop-node.invariant.grows c.number_of_node.ensures.grows;
      are = node_more now after (map (type_at before) c.args.at.now) c.loop-node.numbers.items c.push.new.self.items c.in_ok-number.number c.loop-node.node-index c.args.nodes.now c.node-item.result
          c.loop-node-test.true c.node-item.is c.loop-node.invariant.are c.number_of_node.ensures.grows c.in_ok-number.ensures.within
          (c.in_ok-number.ensures.is ∙ (ap (λ ts. node_at ts (map (type_at now) c.deref.result.now) c.node-item.result) same ∙ ap (λ ns. node_at (map (type_at before) c.args.at.now) (map (type_at now) ns) c.node-item.result) c.deref.ensures.value)) c.in_ok-push.ensures.items;
    }
