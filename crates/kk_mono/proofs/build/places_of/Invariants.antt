use Rattle.std.proofs.Common.{◌≡◌, length, map}
use Rattle.kk_syntax.specs.Programs.{constructor_tree}
use Rattle.kk_mono.specs.BuiltInstances.{ArePlaces}
use Rattle.kk_mono.proofs.build.places_of.Given as goal

abbrev pub invariant-loop-number : goal.invariant-loop-number
invariant-loop-number l = record {
  as_many : length l.places.items
      ≡ l.number;
  are : ArePlaces (map constructor_tree l.constructors) l.places.items;
}
