use Rattle.std.proofs.Common.{map, drop}
use Rattle.kk_syntax.specs.Surface.{written_parameter}
use Rattle.kk_syntax.specs.Types.{type_tree}
use Rattle.kk_names.proofs.Declarations.{ParametersSoFar}
use Rattle.kk_names.proofs.resolver.Resolver.parameters.Given as goal

abbrev pub invariant-loop-parameter : goal.invariant-loop-parameter
invariant-loop-parameter l =
    ParametersSoFar l.variables l.fn.self l.self (map written_parameter (drop l.parameter-index l.parameters)) (map written_parameter l.parameters) (map type_tree l.types.items)
