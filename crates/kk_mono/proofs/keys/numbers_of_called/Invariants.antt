use Rattle.std.proofs.Common.{take}
use Rattle.kk_mono.specs.KeyTrees.{keys_in, keys_called}
use Rattle.kk_mono.proofs.SearchKeys.{Calling}
use Rattle.kk_mono.proofs.keys.numbers_of_called.Given as goal

abbrev pub invariant-loop-choice : goal.invariant-loop-choice
invariant-loop-choice l =
    Calling (keys_in l.initial.keys) (keys_in l.keys) l.numbers.items (keys_called (take l.choice-index l.taken)) (keys_called (take l.choice-index l.taken))
