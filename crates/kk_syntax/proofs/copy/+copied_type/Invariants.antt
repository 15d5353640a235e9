use Rattle.std.proofs.Common.{◌≡◌, map, take}
use Rattle.kk_syntax.specs.Types.{type_tree}
use Rattle.kk_syntax.proofs.copy.+copied_type.Given as goal

abbrev pub invariant-copied_types-loop-of : goal.invariant-copied_types-loop-of
invariant-copied_types-loop-of l = map type_tree l.copies.items ≡ map type_tree (take l.of-index l.types)
