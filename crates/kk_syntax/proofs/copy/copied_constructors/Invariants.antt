use Rattle.std.proofs.Common.{◌≡◌, map, take}
use Rattle.kk_syntax.specs.Programs.{constructor_tree}
use Rattle.kk_syntax.proofs.copy.copied_constructors.Given as goal

abbrev pub invariant-loop-constructor : goal.invariant-loop-constructor
invariant-loop-constructor l = map constructor_tree l.copies.items ≡ map constructor_tree (take l.constructor-index l.constructors)
