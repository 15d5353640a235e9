use Rattle.std.proofs.Common.{map, drop}
use Rattle.kk_syntax.specs.Programs.{function_tree}
use Rattle.kk_syntax.specs.Surface.{written_declaration}
use Rattle.kk_names.specs.Names.{KeepsDepth}
use Rattle.kk_names.proofs.Declarations.{ResolvedSoFar}
use Rattle.kk_names.proofs.resolver.Resolver.all_functions.Given as goal

abbrev pub invariant-loop-declaration : goal.invariant-loop-declaration
invariant-loop-declaration l =
    ResolvedSoFar l.fn.self l.self (map written_declaration (drop l.declaration-index l.declarations)) (map written_declaration l.declarations) (map function_tree l.functions.items)
    × KeepsDepth l.declarations l.functions.items
