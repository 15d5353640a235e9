use Rattle.std.proofs.Common.{◌<◌, ◌-◌, length, get_or, take, drop, refl, arith}
use Rattle.kk_unify.proofs.ArgumentSteps.{argument_within, root_within, wanted, advanced}
use Rattle.kk_unify.proofs.walk.Rooted.advance.Goals as goal

pub index-root-requires : goal.index-root-requires
index-root-requires c =
    let within : get_or (take (length c.arguments-arguments.result.now - c.len.result) (drop c.len.result c.arguments-arguments.result.now)) c.loop-argument.argument-index 0 < length c.args.self.now.roots.items =
    argument_within c.args.self.now c.args.marks.now c.args.frame.now c.loop-argument.frame c.len.result c.loop-argument.argument-index c.arguments-arguments.result.now _ c.requires.rooted c.requires.marks c.requires.node c.arguments-arguments.ensures (omega arith) c.loop-argument.invariant c.loop-argument-test.true in
    omega arith

pub bounds : goal.bounds
bounds c =
    root_within c.args.self.now c.args.marks.now c.args.frame.now c.loop-argument.frame c.len.result c.loop-argument.argument-index c.arguments-arguments.result.now _ c.requires.rooted c.requires.marks c.requires.node c.arguments-arguments.ensures (omega arith) c.loop-argument.invariant c.loop-argument-test.true c.index-root.result.now c.index-root.ensures

pub returns-in-New : goal.returns-in-New
returns-in-New c = record {
  node = c.loop-argument.invariant.0;
  advanced = wanted c.args.self.now c.args.marks.now c.args.frame.now c.loop-argument.frame c.len.result c.loop-argument.argument-index c.arguments-arguments.result.now _ c.requires.rooted c.requires.marks c.requires.node c.arguments-arguments.ensures (omega arith) c.loop-argument.invariant c.loop-argument-test.true c.index-root.result.now c.index-root.ensures c.in-New.is;
}

pub loop-argument-preserved : goal.loop-argument-preserved
loop-argument-preserved c =
    advanced c.args.self.now c.args.marks.now c.args.frame.now c.loop-argument.frame c.len.result c.loop-argument.argument-index c.arguments-arguments.result.now _ c.requires.rooted c.requires.marks c.requires.node c.arguments-arguments.ensures (omega arith) c.loop-argument.invariant c.loop-argument-test.true c.index-root.result.now c.index-root.ensures c.in-Numbered.number _ c.in-Numbered.is refl c.in_ok-push-in-Numbered.ensures.items
