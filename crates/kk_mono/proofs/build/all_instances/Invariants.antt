use Rattle.kk_mono.specs.BuiltInstances.{AreBuilt}
use Rattle.kk_mono.specs.KeyTrees.{keys_in}
use Rattle.kk_mono.proofs.build.all_instances.Given as goal

abbrev pub invariant-loop-seen : goal.invariant-loop-seen
invariant-loop-seen l = AreBuilt l.program (keys_in l.keys) l.yielded l.instances.items
