use Rattle.std.proofs.Common.{◌≡◌, map, drop}
use Rattle.kk_counted.specs.KeptFields.{forget_variables}
use Rattle.kk_respec.specs.KnownTokens.{known_of}
use Rattle.kk_respec.proofs.known.forget_variables.Given as goal

abbrev pub invariant-loop-variable : goal.invariant-loop-variable
invariant-loop-variable l =
    forget_variables (drop l.variable-index l.variables) (map known_of l.known.items)
    ≡ forget_variables l.variables (map known_of l.initial.known.items)
