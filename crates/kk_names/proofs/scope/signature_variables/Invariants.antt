use Rattle.std.proofs.Common.{◌≡◌, [], map, drop}
use Rattle.kk_syntax.specs.Surface.{written_parameter}
use Rattle.kk_names.specs.TypeNames.{parameter_variables}
use Rattle.kk_names.proofs.scope.signature_variables.Given as goal

abbrev pub invariant-loop-parameter : goal.invariant-loop-parameter
invariant-loop-parameter l =
    parameter_variables (map written_parameter (drop l.parameter-index l.parameters)) l.variables.items ≡ parameter_variables (map written_parameter l.parameters) []
