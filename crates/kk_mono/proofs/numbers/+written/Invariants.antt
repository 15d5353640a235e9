use Rattle.std.proofs.Common.{map, take}
use Rattle.kk_syntax.specs.Types.{type_tree, put, type_at}
use Rattle.kk_mono.specs.Tables.{Grows, AreNumbers}
use Rattle.kk_mono.specs.Views.{types_in}
use Rattle.kk_mono.proofs.numbers.+written.Given as goal

abbrev pub invariant-numbers_of_written-loop-of : goal.invariant-numbers_of_written-loop-of
invariant-numbers_of_written-loop-of l = record {
  grows : Grows (types_in l.initial.types) (types_in l.types);
  are : AreNumbers (types_in l.types) l.numbers.items (map (put (type_at (map (type_at (types_in l.initial.types)) l.at))) (map type_tree (take l.of-index l.written)));
}
