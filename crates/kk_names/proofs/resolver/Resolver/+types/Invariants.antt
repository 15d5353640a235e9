use Rattle.std.proofs.Common.{map, drop}
use Rattle.kk_syntax.specs.Surface.{written_type, types_of}
use Rattle.kk_syntax.specs.Types.{type_tree}
use Rattle.kk_names.proofs.TypeMeanings.{TypesSoFar}
use Rattle.kk_names.proofs.resolver.Resolver.+types.Given as goal

abbrev pub invariant-of_types-loop-written : goal.invariant-of_types-loop-written
invariant-of_types-loop-written l =
    TypesSoFar l.variables l.fn.self l.self (types_of (map written_type (drop l.written-index l.types))) (types_of (map written_type l.types)) (map type_tree l.resolved.items)
