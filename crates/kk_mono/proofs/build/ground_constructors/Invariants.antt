use Rattle.std.proofs.Common.{map, take}
use Rattle.std.specs.List.{AllZip}
use Rattle.kk_syntax.specs.Programs.{constructor_tree}
use Rattle.kk_mono.specs.BuiltInstances.{IsMadeOf}
use Rattle.kk_mono.specs.KeyTrees.{keys_in}
use Rattle.kk_mono.specs.Tables.{Grows}
use Rattle.kk_mono.specs.Views.{types_in}
use Rattle.kk_mono.proofs.build.ground_constructors.Given as goal

abbrev pub invariant-loop-number : goal.invariant-loop-number
invariant-loop-number l = record {
  grows : Grows (types_in l.initial.types) (types_in l.types);
  are : AllZip (IsMadeOf (map constructor_tree l.constructors) (types_in l.types)) (take l.number (keys_in l.known)) l.made.items;
}
