use Rattle.kk_mono.specs.KeyTrees.{key_tree, keys_in}
use Rattle.kk_mono.proofs.BuiltInstances.{built_more}
use Rattle.kk_mono.proofs.build.all_instances.Goals as goal

pub loop-seen-preserved : goal.loop-seen-preserved
loop-seen-preserved c =
    built_more c.args.program.now
    (keys_in c.args.keys.now) c.loop-seen.yielded c.loop-seen.instances.items c.push.new.self.items
    (key_tree c.get-key.result.now) c.in-Some.seen c.in_ok-instance.field-0 c.index-function.result.now c.len.result
    c.loop-seen.instances.ok.0 c.len.ensures c.get-key.ensures c.requires.functions c.index-function.ensures
    c.in_ok-instance.ensures c.in_ok-push.ensures.items c.loop-seen.invariant
