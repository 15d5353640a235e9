use Rattle.std.proofs.Common.{drop}
use Rattle.kk_names.proofs.DeclaredTypes.{NamedSoFar}
use Rattle.kk_names.proofs.resolver.Resolver.type_parameters.Given as goal

abbrev pub invariant-loop-parameter : goal.invariant-loop-parameter
invariant-loop-parameter l = NamedSoFar l.fn.self l.self l.names.items (drop l.parameter-index l.parameters) l.parameters
