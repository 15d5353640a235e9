use Rattle.std.proofs.Common.{◌≡◌, ◌++◌, map, drop}
use Rattle.kk_source.specs.Live.{value_of}
use Rattle.kk_meaning.specs.View.{value_view, environment_of}
use Rattle.kk_meaning.proofs.held.hold_variables.Given as goal

abbrev pub invariant-loop-variable : goal.invariant-loop-variable
invariant-loop-variable l =
    map value_view l.values.items ++ map (value_of (environment_of l.bindings.links.items l.environment)) (drop l.variable-index l.variables) ≡ map value_view l.fn.values.items ++ map (value_of (environment_of l.bindings.links.items l.environment)) l.variables
