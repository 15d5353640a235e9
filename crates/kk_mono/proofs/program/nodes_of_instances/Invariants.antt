use Rattle.std.proofs.Common.{◌≡◌, ◌+◌, ◌-◌, ◌^◌, ◌<◌, min, drop}
use Rattle.kk_syntax.specs.Programs.{program_tree}
use Rattle.kk_mono.specs.KeyTrees.{keys_in}
use Rattle.kk_mono.specs.PassedLimits.{summed_keys}
use Rattle.kk_mono.proofs.program.nodes_of_instances.Given as goal

abbrev pub invariant-loop-number : goal.invariant-loop-number
invariant-loop-number l = record {
  fits : l.sum < 2 ^ 64;
  rest : min (l.sum + summed_keys (program_tree l.program) (drop l.number (keys_in l.keys))) (2 ^ 64 - 1) ≡ min (summed_keys (program_tree l.program) (keys_in l.keys)) (2 ^ 64 - 1);
}
