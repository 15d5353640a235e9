use Rattle.std.proofs.Common.{map, take}
use Rattle.kk_syntax.specs.TypedPrograms.{node_types}
use Rattle.kk_syntax.specs.Types.{put, type_at}
use Rattle.kk_mono.specs.Tables.{Grows, AreNumbers}
use Rattle.kk_mono.specs.Views.{types_in}
use Rattle.kk_mono.proofs.numbers.numbers_of_nodes.Given as goal

abbrev pub invariant-loop-node : goal.invariant-loop-node
invariant-loop-node l = record {
  grows : Grows (types_in l.initial.types) (types_in l.types);
  are : AreNumbers (types_in l.types) l.numbers.items (map (put (type_at (map (type_at (types_in l.initial.types)) l.at))) (node_types (take l.node-index l.nodes)));
}
