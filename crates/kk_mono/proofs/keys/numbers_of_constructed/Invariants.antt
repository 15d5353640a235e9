use Rattle.std.proofs.Common.{map, take}
use Rattle.kk_syntax.specs.Programs.{constructor_tree}
use Rattle.kk_mono.specs.KeyTrees.{keys_in, keys_constructed}
use Rattle.kk_mono.proofs.SearchKeys.{Constructing}
use Rattle.kk_mono.proofs.keys.numbers_of_constructed.Given as goal

abbrev pub invariant-loop-choice : goal.invariant-loop-choice
invariant-loop-choice l =
    Constructing (map constructor_tree l.constructors) (keys_in l.initial.known) (keys_in l.known) l.numbers.items
    (keys_constructed (take l.choice-index l.taken))
