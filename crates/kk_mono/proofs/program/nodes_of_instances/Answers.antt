use Rattle.std.proofs.Common.{arith}
use Rattle.kk_mono.specs.KeyTrees.{key_tree, keys_in}
use Rattle.kk_mono.proofs.CountAnswers.{summed_more}
use Rattle.kk_mono.proofs.program.nodes_of_instances.Goals as goal

pub loop-number-preserved : goal.loop-number-preserved
loop-number-preserved c =
    let more = summed_more c.args.program.now (keys_in c.args.keys.now) c.loop-number.number (key_tree c.get.result.now) c.index.result.now c.get.ensures c.requires c.index.ensures in
    let fits = c.loop-number.invariant.fits in
    let rest = c.loop-number.invariant.rest in
    let nodes = c.nodes.ensures in
    let sum = c.saturating_add-sum.ensures in
    record { fits = omega (arith, sum); rest = omega (arith, more, fits, rest, nodes, sum) }
