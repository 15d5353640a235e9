use Rattle.std.proofs.Common.{map, take}
use Rattle.kk_syntax.specs.Programs.{constructor_tree}
use Rattle.kk_mono.specs.KeyTrees.{Sees, keys_in}
use Rattle.kk_mono.specs.Siblings.{keys_of}
use Rattle.kk_mono.proofs.keys.add_type.Given as goal

abbrev pub invariant-loop-place : goal.invariant-loop-place
invariant-loop-place l = Sees (keys_in l.initial.known) (keys_in l.known)
    (keys_of (take l.place (map constructor_tree l.constructors)) l.of_type l.at)
