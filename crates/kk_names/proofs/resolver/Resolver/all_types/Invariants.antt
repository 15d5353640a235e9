use Rattle.std.proofs.Common.{map, drop}
use Rattle.kk_syntax.specs.Programs.{constructor_tree}
use Rattle.kk_syntax.specs.Surface.{written_declaration}
use Rattle.kk_names.proofs.DeclaredTypes.{TypesSoFar}
use Rattle.kk_names.proofs.resolver.Resolver.all_types.Given as goal

abbrev pub invariant-loop-declaration : goal.invariant-loop-declaration
invariant-loop-declaration l =
    TypesSoFar l.fn.self l.self (map written_declaration (drop l.declaration-index l.declarations)) (map written_declaration l.declarations)
    l.types.items (map constructor_tree l.constructors.items)
