use Rattle.std.proofs.Common.{map, drop}
use Rattle.kk_syntax.specs.Programs.{constructor_tree}
use Rattle.kk_syntax.specs.Surface.{written_constructor}
use Rattle.kk_names.proofs.DeclaredTypes.{CasesSoFar}
use Rattle.kk_names.proofs.resolver.Resolver.cases.Given as goal

abbrev pub invariant-loop-case : goal.invariant-loop-case
invariant-loop-case l =
    CasesSoFar l.variables l.number l.fn.self l.self l.tag (map written_constructor (drop l.case-index l.cases)) (map written_constructor l.cases)
    (map constructor_tree l.fn.constructors.items) (map constructor_tree l.constructors.items)
